-- How large a double is, by a whole number.
use Rattle.std.specs.Prelude.{◌≡◌, true, ℕ, ◌*◌, ◌/◌, ◌^◌, ◌≤◌, Float}
use Rattle.std.specs.Float.Ieee.Positive.{num, den}
use Rattle.double.specs.Double.{finite, size_of}

-- x is finite and at most n in size: |x| is the fraction num x / den x
pub record Under (n : ℕ) (x : Float) : Type 0 where
  pub number : finite x ≡ true
  pub size : num x ≤ n * den x

-- besides, x is its own size: not below zero, and not minus zero
pub record Upto (n : ℕ) (x : Float) : Type 0 where
  pub under : Under n x
  pub plus : size_of x ≡ x

-- The smallest double above zero, 2^-1074, is the unit of all others: how many of them |x| is. A whole number for every double (proofs/Units)
abbrev pub units_of : Float → ℕ
units_of x = num x * 2 ^ 1074 / den x
