-- `Nearest::closer` meets its contract: each return by the test that leads to it. Assumes nothing.
use Rattle.vec3d.specs.Nearest.{closer_of}
use Rattle.vec3d.proofs.Nearest.closer.Goals as goal

pub returns-then-distance-self : goal.returns-then-distance-self
unfolding closer_of
returns-then-distance-self c = rw c.if-distance-self.true

pub returns-else-distance-self : goal.returns-else-distance-self
unfolding closer_of
returns-else-distance-self c = rw c.if-distance-self.false
