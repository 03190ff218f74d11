-- `begin_of` meets its contract: the rows of lower faces end where the face begins. Assumes nothing.
use mathlib.Core.Path.{◌≡◌, ap, ◌∙◌}
use Prim.Native.Nat.{ℕ, ◌-◌}
use native.Mathlib.Omega.{arith}
use Rattle.std.proofs.Common.{rules, tests}
use Rattle.region.specs.Entries.{halved}
use Rattle.region_write.specs.Signed.{place_in}
use Rattle.region_write.proofs.Beginning.{lower_face, begins_at}
use Rattle.region_write.proofs.begin_of.Goals as goal

pub returns : goal.returns
returns c =
    let a = c.args in
    let p = c.requires in
    let whole : a.count - 0 ≡ a.count = omega arith in
    let found = c.halve.ensures.end (lower_face (place_in a.rows.now) a.face) (λ n b l m e. search (rules, tests)) in
    (found ∙ (ap (λ (d : ℕ). halved (lower_face (place_in a.rows.now) a.face) d 0 a.count) whole ∙ begins_at (place_in a.rows.now) a.count p.1 a.face p.2), c.halve.ensures.within)
