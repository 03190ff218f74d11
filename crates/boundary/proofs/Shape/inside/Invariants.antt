-- `Shape::inside` meets its contract: the walk of a hexagon whose corners all stay. Assumes nothing.
use Rattle.boundary.proofs.Landing.{last_at}
use Rattle.boundary.proofs.Walking.{Walking}
use Rattle.boundary.proofs.Shape.inside.Given as goal

abbrev pub invariant-loop-k : goal.invariant-loop-k
invariant-loop-k l = Walking l.self l.points l.k (last_at l.self l.k) l.k
