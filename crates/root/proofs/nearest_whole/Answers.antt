-- `nearest_whole` meets its contract: the sum is no NaN, and its lowest digits are few. Assumes nothing.
use Rattle.double.proofs.Sign.{no_nan}
use Rattle.root.proofs.nearest_whole.Goals as goal

pub float_to_bits-result : goal.float_to_bits-result
float_to_bits-result c = no_nan _ c.if-sum.false
