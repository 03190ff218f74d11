-- `Vec3d::bad_number` meets its contract. Assumes nothing.
use Rattle.vec3d.specs.Vectors.{bad_number}
use Rattle.vec3d.proofs.Vec3d.bad_number.Goals as goal

pub returns : goal.returns
unfolding bad_number
returns c = rw (c.is_finite-3.ensures, c.is_finite-2.ensures, c.is_finite.ensures)
