-- `margin::is_leftover` meets its contract. Assumes nothing.
use Rattle.std.proofs.Common.{refl}
use lib.Ieee.{of_bits}
use Rattle.margin.specs.Margins.{is_leftover}
use Rattle.margin.proofs.is_leftover.Goals as goal

pub returns : goal.returns
unfolding is_leftover of_bits
returns c = refl
