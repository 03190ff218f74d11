-- `vec_at` meets its contract. Assumes nothing.
use Rattle.vec3d.specs.Frame.{vec_at}
use Rattle.vec3d.proofs.vec_at.Goals as goal

pub returns : goal.returns
unfolding vec_at
returns c = c.new.ensures
