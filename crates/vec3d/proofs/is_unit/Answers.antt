-- `is_unit` meets its contract. Assumes nothing.
use mathlib.Core.Path.{refl}
use lib.Ieee.{of_bits, neg}
use Rattle.vec3d.specs.AsAsked.{near_one}
use Rattle.vec3d.proofs.is_unit.Goals as goal

pub returns : goal.returns
unfolding near_one of_bits neg
returns c = refl
