-- `Vec3d::loose` meets its contract. Assumes nothing.
use Rattle.vec3d.specs.AsAsked.{loose}
use Rattle.vec3d.proofs.Vec3d.loose.Goals as goal

pub returns : goal.returns
unfolding loose
returns c = rw (c.is_narrow-3.ensures, c.is_narrow-2.ensures, c.is_narrow.ensures)
