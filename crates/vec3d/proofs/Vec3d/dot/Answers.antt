-- `Vec3d::dot` meets its contract. Assumes nothing.
use Rattle.vec3d.specs.Vectors.{dot_of}
use Rattle.vec3d.proofs.Vec3d.dot.Goals as goal

pub returns : goal.returns
unfolding dot_of
returns c = rw (c.mul_add-2.ensures, c.mul_add.ensures)
