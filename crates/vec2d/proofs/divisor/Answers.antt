-- `vec2d::divisor` meets its contract. Assumes nothing.
use Rattle.vec2d.specs.Meeting.{divisor_of}
use Rattle.vec2d.proofs.divisor.Goals as goal

pub returns : goal.returns
unfolding divisor_of
returns c = c.mul_add.ensures
