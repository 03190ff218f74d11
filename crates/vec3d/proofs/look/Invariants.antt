-- `look` meets its contract: the loop has looked at the faces below `face`. Assumes nothing.
use mathlib.Core.Path.{◌≡◌}
use Rattle.vec3d.specs.Frame.{some_below}
use Rattle.vec3d.specs.AsAsked.{doubtful}
use Rattle.vec3d.proofs.Held.{Held}
use Rattle.vec3d.proofs.look.Given as goal

abbrev pub invariant-loop-face : goal.invariant-loop-face
invariant-loop-face l = (l.doubt ≡ some_below (doubtful l.frame) l.face) × Held l.frame l.p l.face l.far
