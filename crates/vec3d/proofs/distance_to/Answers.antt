-- `distance_to` meets its contract. Assumes nothing.
use Rattle.vec3d.specs.Nearest.{distance_of}
use Rattle.vec3d.proofs.distance_to.Goals as goal

pub returns : goal.returns
unfolding distance_of
returns c = rw (c.dot.ensures, c.minus-away.ensures, c.face_at.ensures)
