-- `put_marks` meets its contract: the loop has stored the count, and face and mark of the first v points. Assumes nothing.
use mathlib.Core.Path.{◌≡◌}
use mathlib.Core.List.{◌∷◌, ◌++◌}
use Prim.Native.Nat.{◌+◌, ◌*◌}
use lib.ListN.{length, take, drop}
use Rattle.globe.specs.Boundaries.{sphere_points_values}
use Rattle.lent_globe.specs.Globes.{marks_in}
use Rattle.lent_globe.proofs.put_marks.Given as goal

abbrev pub invariant-loop-v : goal.invariant-loop-v
invariant-loop-v l =
    (length l.marks ≡ length l.initial.marks) × (l.marks ≡ (l.count ∷ marks_in (sphere_points_values (take l.v l.points))) ++ drop (2 * l.v + 1) l.initial.marks)
