-- `bad_span` meets its contract. Assumes nothing.
use Rattle.region.specs.Lists.{bad_span}
use Rattle.region.proofs.bad_span.Goals as goal

pub returns : goal.returns
unfolding bad_span
returns c = cc
