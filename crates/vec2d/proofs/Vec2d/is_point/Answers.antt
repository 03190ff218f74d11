-- `Vec2d::is_point` meets its contract. Assumes nothing.
use Rattle.vec2d.specs.Points.{is_point}
use Rattle.vec2d.proofs.Vec2d.is_point.Goals as goal

pub returns : goal.returns
unfolding is_point
returns c = rw (c.is_finite-2.ensures, c.is_finite.ensures)
