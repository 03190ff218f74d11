-- `take_bytes` ends, since each turn leaves fewer bytes. Assumes nothing.
use Rattle.std.proofs.Common.{length}
use Rattle.ask_main.proofs.take_bytes.Given as goal

abbrev pub decreases-loop-end : goal.decreases-loop-end
decreases-loop-end g l = length l.rest
