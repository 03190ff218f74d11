-- `double::mul_add` meets its contract. Assumes nothing.
use mathlib.Core.Path.{refl}
use Rattle.double.specs.Double.{mul_add_of}
use Rattle.double.proofs.mul_add.Goals as goal

pub returns : goal.returns
unfolding mul_add_of
returns c = refl
