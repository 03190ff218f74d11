-- `default_frame` meets its contract: the literals of the code have these bits. Assumes nothing.
use mathlib.Core.Path.{refl}
use Rattle.frame.specs.Default.{default_frame}
use Rattle.frame.proofs.default_frame.Goals as goal

pub returns : goal.returns
unfolding default_frame
returns c = refl
