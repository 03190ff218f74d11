-- `of_bits` meets its contract: a NaN, or the double that the pattern stands for. Assumes nothing.
use Rattle.ask_read.proofs.Patterns.{nan_above, number_below}
use Rattle.ask_read.proofs.of_bits.Goals as goal

pub returns-then-n-gt9218868437227405312 : goal.returns-then-n-gt9218868437227405312
returns-then-n-gt9218868437227405312 c = nan_above c.args.n c.if-n-gt9218868437227405312.true

pub float_from_bits-result : goal.float_from_bits-result
float_from_bits-result c = number_below c.args.n c.if-n-gt9218868437227405312.false
