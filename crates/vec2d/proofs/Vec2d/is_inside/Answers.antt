-- `Vec2d::is_inside` meets its contract. Assumes nothing.
use mathlib.Core.Path.{refl}
use lib.Ieee.{of_bits, neg}
use Rattle.vec2d.specs.Rounding.{inside}
use Rattle.vec2d.proofs.Vec2d.is_inside.Goals as goal

pub returns : goal.returns
unfolding inside of_bits neg
returns c = refl
