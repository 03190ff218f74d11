-- `put_corners` meets its contract: the loop has stored the first v corners. Assumes nothing.
use mathlib.Core.Path.{◌≡◌}
use mathlib.Core.List.{◌∷◌, ◌++◌}
use Prim.Native.Nat.{◌+◌, ◌*◌}
use lib.ListN.{length, take, drop}
use Rattle.boundary.specs.Corners.{coords_values}
use Rattle.lent_borders.proofs.put_corners.Given as goal

abbrev pub invariant-loop-v : goal.invariant-loop-v
invariant-loop-v l =
    (length l.out ≡ length l.initial.out) × (l.out ≡ (l.grid ∷ coords_values (take l.v l.corners)) ++ drop (3 * l.v + 1) l.initial.out)
