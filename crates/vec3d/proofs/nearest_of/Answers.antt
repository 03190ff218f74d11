-- `nearest_of` meets its contract: the least of the distances. Assumes nothing.
use Rattle.vec3d.proofs.Passing.{passed_long}
use Rattle.vec3d.proofs.Choosing.{nearest_held}
use Rattle.vec3d.proofs.nearest_of.Goals as goal

pub distances-requires : goal.distances-requires
distances-requires c = passed_long _ c.requires

pub returns : goal.returns
returns c = nearest_held _ _ _ _ c.distances.ensures c.least.ensures c.requires
