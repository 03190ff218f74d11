-- `Digits::guess` meets its contract: the patterns it makes are those of numbers. Assumes nothing.
use native.Mathlib.Omega.{arith}
use Rattle.root.proofs.Patterns.{small_no_nan}
use Rattle.root.proofs.Digits.guess.Goals as goal

pub float_from_bits-low : goal.float_from_bits-low
float_from_bits-low c = small_no_nan _ (omega arith)

pub float_from_bits-high : goal.float_from_bits-high
float_from_bits-high c = small_no_nan _ (omega arith)
