-- `Crossing::met` meets its contract: each return by the tests that lead to it. Assumes nothing.
use Rattle.vec2d.specs.Meeting.{met_of}
use Rattle.vec2d.proofs.Crossing.met.Goals as goal

pub returns-then-self : goal.returns-then-self
unfolding met_of
returns-then-self c = rw c.if-self.true

pub returns-then-is_point : goal.returns-then-is_point
unfolding met_of
returns-then-is_point c = rw (c.if-self.false, ← c.is_point.ensures, c.if-is_point.true)

pub returns : goal.returns
unfolding met_of
returns c = rw (c.if-self.false, ← c.is_point.ensures, c.if-is_point.false)
