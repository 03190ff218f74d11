-- `vec2d::reached` meets its contract. Assumes nothing.
use Rattle.vec2d.specs.Meeting.{reached_of}
use Rattle.vec2d.proofs.reached.Goals as goal

pub returns : goal.returns
unfolding reached_of
returns c = rw (c.new.ensures, c.mul_add-2.ensures, c.mul_add.ensures)
