-- `distances` meets its contract: the loop has stored the distances of the faces below `face`. Assumes nothing.
use Rattle.vec3d.proofs.Held.{Held}
use Rattle.vec3d.proofs.distances.Given as goal

abbrev pub invariant-loop-face : goal.invariant-loop-face
invariant-loop-face l = Held l.frame l.p l.face l.far
