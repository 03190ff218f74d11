-- `vec3d::is_narrow` meets its contract. Assumes nothing.
use mathlib.Core.Path.{refl}
use lib.Ieee.{of_bits, neg}
use Rattle.vec3d.specs.AsAsked.{narrow}
use Rattle.vec3d.proofs.is_narrow.Goals as goal

pub returns : goal.returns
unfolding narrow of_bits neg
returns c = refl
