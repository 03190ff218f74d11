-- `check` meets its contract. Assumes nothing.
use mathlib.Core.Path.{◌≡◌, sym, ◌∙◌}
use mathlib.Core.Bool.{true}
use native.Mathlib.Omega.{arith}
use Rattle.region_check.specs.Checks.{passes}
use Rattle.region_check.proofs.Checking.{passed_all}
use Rattle.region_check.proofs.check.Goals as goal

pub count_of-requires : goal.count_of-requires
count_of-requires c =
    let right : passes c.args.list.now ≡ true = sym c.passes.ensures ∙ c.if-not-passes.false in
    omega (arith, (passed_all _ right).is_long.fits)

pub level_of-requires : goal.level_of-requires
level_of-requires c =
    let right : passes c.args.list.now ≡ true = sym c.passes.ensures ∙ c.if-not-passes.false in
    omega (arith, (passed_all _ right).is_long.fits)
