-- `put_points` meets its contract: the loop has stored x and y of the first v points. Assumes nothing.
use mathlib.Core.Path.{◌≡◌}
use mathlib.Core.List.{◌++◌}
use Prim.Native.Nat.{◌*◌}
use lib.ListN.{length, take, drop}
use Rattle.lent_borders.proofs.Storing.{xys}
use Rattle.lent_borders.proofs.put_points.Given as goal

abbrev pub invariant-loop-v : goal.invariant-loop-v
invariant-loop-v l =
    (length l.out ≡ length l.initial.out) × (l.out ≡ xys (take l.v l.points) ++ drop (2 * l.v) l.initial.out)
