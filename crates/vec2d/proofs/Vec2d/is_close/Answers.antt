-- `Vec2d::is_close` meets its contract. Assumes nothing.
use Rattle.vec2d.specs.Closeness.{close}
use Rattle.vec2d.proofs.Vec2d.is_close.Goals as goal

pub returns : goal.returns
unfolding close
returns c = rw (c.is_within-2.ensures, c.is_within.ensures)
