-- `Line::crossing` meets its contract: the formula step by step. Assumes nothing.
use Rattle.vec2d.specs.Meeting.{crossing_of}
use Rattle.vec2d.proofs.Line.crossing.Goals as goal

pub returns : goal.returns
unfolding crossing_of
returns c =
    rw (c.reached.ensures, c.share-t.ensures, c.divisor-below.ensures, c.along-s2.ensures, c.along-s1.ensures)
