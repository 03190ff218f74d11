-- `put_vectors` meets its contract: the loop has stored x, y and z of the first v points. Assumes nothing.
use mathlib.Core.Path.{◌≡◌}
use mathlib.Core.List.{◌++◌}
use Prim.Native.Nat.{◌*◌}
use lib.ListN.{length, take, drop}
use Rattle.lent_globe.proofs.Storing.{vectors}
use Rattle.lent_globe.proofs.put_vectors.Given as goal

abbrev pub invariant-loop-v : goal.invariant-loop-v
invariant-loop-v l =
    (length l.out ≡ length l.initial.out) × (l.out ≡ vectors (take l.v l.points) ++ drop (3 * l.v) l.initial.out)
