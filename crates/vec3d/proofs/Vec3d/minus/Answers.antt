-- `Vec3d::minus` meets its contract. Assumes nothing.
use Rattle.vec3d.specs.Vectors.{minus_of}
use Rattle.vec3d.proofs.Vec3d.minus.Goals as goal

pub returns : goal.returns
unfolding minus_of
returns c = c.new.ensures
