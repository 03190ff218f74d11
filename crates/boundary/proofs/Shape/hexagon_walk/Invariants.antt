-- `Shape::hexagon_walk` meets its contract. The loop's invariant: the points, the count and the last corner are those of the first k turns. Assumes nothing.
use Rattle.boundary.proofs.Walking.{Walking}
use Rattle.boundary.proofs.Shape.hexagon_walk.Given as goal

abbrev pub invariant-loop-k : goal.invariant-loop-k
invariant-loop-k l = Walking l.self l.points l.count l.last l.k
