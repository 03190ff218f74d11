-- `Vec2d::is_far` meets its contract. Assumes nothing.
use Rattle.vec2d.specs.Rounding.{too_far}
use Rattle.vec2d.proofs.Vec2d.is_far.Goals as goal

pub returns : goal.returns
unfolding too_far
returns c = rw (c.size-2.ensures, c.size.ensures)
