-- `Line::along` meets its contract. Assumes nothing.
use Rattle.vec2d.specs.Meeting.{along}
use Rattle.vec2d.proofs.Line.along.Goals as goal

pub returns : goal.returns
unfolding along
returns c = c.new.ensures
