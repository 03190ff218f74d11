-- The operations of the branches on a leftover a / c, before they round: each result is one fraction, rounded. Assumes nothing.
use mathlib.Core.Path.{◌≡◌, refl}
use mathlib.Core.Bool.{true, false, true≢false}
use Prim.Native.Nat.{ℕ, ◌+◌, ◌*◌, ◌<◌}
use native.Mathlib.Nat.{mul-pos}
use native.Mathlib.Omega.{arith}
use lib.Dec.{lit<}
use lib.Ieee.{Float, nan, inf, fin, binary64, round, add, sub, mul, div, of_bits}
use lib.Ieee.Fits.{down_pos}
use lib.Ieee.Exact.{HasValue}
use lib.Ieee.Scale.{round_same}
use Rattle.double.specs.Double.{one, two}
use Rattle.double.proofs.Left.{sub_is}

-- 2·x is 2·a / c, rounded.
pub twice_is : (x : Float) (a c : ℕ) → 0 < c → HasValue x false a c → mul binary64 two x ≡ round binary64 false (2 * a) c
unfolding mul of_bits
twice_is nan a c C v = absurd v
twice_is (inf s) a c C v = absurd v
twice_is (fin true m e) a c C v = absurd (true≢false v.0)
twice_is (fin false m e) a c C v = round_same binary64 false _ _ (2 * a) c (mul-pos {m = 1} (lit< tt) (down_pos e)) C (omega (arith, v.1))

-- x/2 is a / 2·c, rounded.
pub half_is : (x : Float) (a c : ℕ) → 0 < c → HasValue x false a c → div binary64 x two ≡ round binary64 false a (2 * c)
unfolding div of_bits
half_is nan a c C v = absurd v
half_is (inf s) a c C v = absurd v
half_is (fin true m e) a c C v = absurd (true≢false v.0)
half_is (fin false m e) a c C v = round_same binary64 false _ _ a (2 * c) (mul-pos {m = 2} (lit< tt) (down_pos e)) (omega arith) (omega (arith, v.1))

-- 1 + x is (c + a) / c, rounded.
pub one_and_is : (x : Float) (a c : ℕ) → 0 < c → HasValue x false a c → add binary64 one x ≡ round binary64 false (c + a) c
unfolding add of_bits
one_and_is nan a c C v = absurd v
one_and_is (inf s) a c C v = absurd v
one_and_is (fin true m e) a c C v = absurd (true≢false v.0)
one_and_is (fin false m e) a c C v = round_same binary64 false _ _ (c + a) c (mul-pos {m = 1} (lit< tt) (down_pos e)) C (omega (arith, v.1))

one_value : (c : ℕ) → HasValue one false c c
unfolding of_bits
one_value c = (refl, omega arith)

-- 1 - x is (c - a) / c, rounded, where x is at most 1: k is c - a.
pub from_one_is : (x : Float) (a k c : ℕ) → 0 < c → HasValue x false a c → c ≡ a + k → sub binary64 one x ≡ round binary64 false k c
from_one_is x a k c C v h = sub_is one x c a k c C (one_value c) v h

-- x - 1 is (a - c) / c, rounded, where x is at least 1: k is a - c.
pub less_one_is : (x : Float) (a k c : ℕ) → 0 < c → HasValue x false a c → a ≡ c + k → sub binary64 x one ≡ round binary64 false k c
less_one_is x a k c C v h = sub_is x one a c k c C v (one_value c) h
