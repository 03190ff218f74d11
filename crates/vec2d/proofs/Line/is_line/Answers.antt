-- `Line::is_line` meets its contract. Assumes nothing.
use Rattle.vec2d.specs.Meeting.{is_line}
use Rattle.vec2d.proofs.Line.is_line.Goals as goal

pub returns : goal.returns
unfolding is_line
returns c = rw (c.is_point-2.ensures, c.is_point.ensures)
