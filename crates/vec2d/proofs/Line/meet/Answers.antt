-- `Line::meet` meets its contract: the tests for numbers, then the formula's own. Assumes nothing.
use Rattle.vec2d.proofs.Answers.{met_said}
use Rattle.vec2d.proofs.Line.meet.Goals as goal

pub returns-then-is_line : goal.returns-then-is_line
returns-then-is_line c =
    rw (c.met.ensures, c.crossing.ensures) (met_said _ _ (rw (← c.is_line-2.ensures, ← c.is_line.ensures) c.if-is_line.true))
