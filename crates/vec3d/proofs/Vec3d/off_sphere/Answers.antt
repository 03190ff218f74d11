-- `Vec3d::off_sphere` meets its contract. Assumes nothing.
use lib.Ieee.{of_bits, sub, add}
use Rattle.vec3d.specs.Vectors.{off_sphere}
use Rattle.vec3d.proofs.Vec3d.off_sphere.Goals as goal

pub returns : goal.returns
unfolding off_sphere of_bits sub add
returns c = rw c.dot-square.ensures
