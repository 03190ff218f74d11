-- `vec2d::share` meets its contract. Assumes nothing.
use Rattle.vec2d.specs.Meeting.{share_of}
use Rattle.vec2d.proofs.share.Goals as goal

pub returns : goal.returns
unfolding share_of
returns c = rw c.mul_add.ensures
