-- `along` meets its contract: two products and two sums. Assumes nothing.
use mathlib.Core.Path.{refl}
use Rattle.globe.specs.Points.{along_of}
use Rattle.globe.proofs.along.Goals as goal

pub returns : goal.returns
unfolding along_of
returns c = refl
