-- `start_of` meets its contract. Assumes nothing.
use Rattle.region.specs.Lists.{start_of}
use Rattle.region.proofs.start_of.Goals as goal

pub returns : goal.returns
unfolding start_of
returns c = c.number_at.ensures.0
