-- `record_at` meets its contract: four numbers. Assumes nothing.
use Rattle.region.specs.Lists.{record_at}
use Rattle.region.proofs.record_at.Goals as goal

pub returns : goal.returns
unfolding record_at
returns c = cc
