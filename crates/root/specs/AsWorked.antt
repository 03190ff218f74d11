-- Definitions in the code's shape, which only inner functions promise: the digits that a root is worked out from, and what its 53 digits are. No entry's
-- promise stands on them; `Rounding.bits_root` and `Patterns.units_are` tie them to the paper's.
use Rattle.std.specs.Prelude.{◌≡◌, true, ℕ, ◌+◌, ◌-◌, ◌*◌, ◌/◌, ◌%◌, ◌^◌, ◌≤◌, ◌<◌, ltb, Float}
use Rattle.std.specs.Float.Ieee.{lt}
use Rattle.reply.specs.Choice.{pick}
use Rattle.double.specs.Double.{nought, finite}

-- q is the whole number nearest to the root of n: the root lies between q - 1/2 and q + 1/2
pub record NearRoot (n q : ℕ) : Type 0 where
  pub under : q * q < n + q
  pub over : n ≤ q * q + q

-- n is d · 2^p with an even p, and d has 53 or 54 digits
pub record Scaling (n d p : ℕ) : Type 0 where
  pub value : d * 2 ^ p ≡ n
  pub least : 2 ^ 52 ≤ d
  pub most : d + 1 < 2 ^ 54
  pub even : p % 2 ≡ 0
  pub low : 1020 ≤ p
  pub high : p ≤ 3120

-- the value of a bit pattern without a sign, in units of 2^-1074: the digits, and a leading one unless the exponent's field is 0
abbrev pub units_of_bits : ℕ → ℕ
units_of_bits b = pick (ltb b (2 ^ 52)) b ((b % 2 ^ 52 + 2 ^ 52) * 2 ^ (b / 2 ^ 52 - 1))

-- a finite number above zero
pub record Positive (x : Float) : Type 0 where
  pub number : finite x ≡ true
  pub above : lt nought x ≡ true
