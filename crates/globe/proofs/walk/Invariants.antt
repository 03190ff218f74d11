-- `walk` meets its contract. The loop's invariant: points and count are those of what the first k turns need, and the last corner is known. Assumes nothing.
use Rattle.globe.proofs.Turning.{Walking}
use Rattle.globe.proofs.walk.Given as goal

abbrev pub invariant-loop-k : goal.invariant-loop-k
invariant-loop-k l = Walking l.frame l.shape l.points l.count l.last l.k
