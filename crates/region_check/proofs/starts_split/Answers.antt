-- `starts_split` meets its contract: `all` asks of the twenty faces, one by one. Assumes nothing.
use mathlib.Core.Path.{◌∙◌}
use mathlib.Core.Bool.{Bool}
use Prim.Native.Nat.{ℕ}
use native.Mathlib.Omega.{arith}
use Rattle.std.proofs.Common.{rules, tests}
use Rattle.std.proofs.lemmas.Iterator.{YieldsList-from_range}
use Rattle.std.proofs.lemmas.Iterator.Search.{all_from_yields_List}
use Rattle.region.specs.Lists.{start_of, count_of}
use Rattle.region.proofs.Every.{all_ranged}
use Rattle.region_check.specs.Starts.{splits}
use Rattle.region_check.specs.Checks.{face_at, starts_split}
use Rattle.region_check.proofs.starts_split.Goals as goal

pub returns : goal.returns
unfolding starts_split
returns c =
    let s = c.args.list.now in
    let right : ℕ → Bool = λ f. splits (face_at s) (count_of s) f (start_of s f) in
    let count = c.requires.1 in
    all_from_yields_List right _ _ _ c.all.ensures.ran (YieldsList-from_range 0 20 20 (cc) (omega arith)) (λ x b q k. search (rules, tests)) ∙ all_ranged right 20
