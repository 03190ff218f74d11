-- The leftovers of an accepted point are exact, at least 0 and below 1, never minus zero, and 2·r1 - 1 is the same rounded once or twice. Assumes nothing.
use mathlib.Core.Path.{◌≡◌, refl}
use mathlib.Core.Bool.{true, false}
use Prim.Native.Nat.{◌-◌, ◌/◌, ◌%◌, ◌^◌}
use native.Mathlib.Nat.{mod-lt}
use lib.Dec.{T, lit≤}
use lib.Ieee.{Float, binary64, fits, of_bits, neg, sub, mul}
use lib.Ieee.Exact.{HasValue}
use lib.Ieee.Fits.{add-fits, sub-fits, mul-fits}
use lib.Ieee.Positive.{num, den, den_pos}
use Rattle.reply.specs.Replies.{fine}
use Rattle.double.specs.Double.{finite, one, two, left_of, mul_add_of, mul_add_once}
use Rattle.double.specs.Sizes.{Upto}
use Rattle.double.proofs.Nonnegative.{upto_le}
use Rattle.double.proofs.Left.{InUnit, whole_value, left_value, left_range}
use Rattle.double.proofs.Once.{unit_once}
use Rattle.vec2d.specs.declared.Vec2d.{Vec2d}
use Rattle.vec2d.specs.Rounding.{round_verdict, Near, x1_of, x2_of, quantized_of}
use Rattle.vec2d.proofs.Accepted.{accepted, first_upto, second_upto}

pub wide_first : (v : Vec2d) → Near v → Upto (2 ^ 53) (x1_of v)
wide_first v p = upto_le (2 ^ 26 - 1) (2 ^ 53) (x1_of v) (lit≤ tt) (first_upto v p)

pub wide_second : (v : Vec2d) → Near v → Upto (2 ^ 53) (x2_of v)
wide_second v p = upto_le (2 ^ 26 - 1) (2 ^ 53) (x2_of v) (lit≤ tt) (second_upto v p)

-- what is known of whole parts and leftovers: with x1 = num / den as a fraction, m1 is its quotient and r1 its remainder over den, and so for x2
pub record Exact (v : Vec2d) : Type 0 where
  pub whole1 : (quantized_of v).m1 ≡ num (x1_of v) / den (x1_of v)
  pub whole2 : (quantized_of v).m2 ≡ num (x2_of v) / den (x2_of v)
  pub left1 : HasValue (quantized_of v).r1 false (num (x1_of v) % den (x1_of v)) (den (x1_of v))
  pub left2 : HasValue (quantized_of v).r2 false (num (x2_of v) % den (x2_of v)) (den (x2_of v))

-- The whole parts and the leftovers of an accepted point are exact: nothing is rounded where they are taken apart.
pub exact : (v : Vec2d) → round_verdict v ≡ fine → Exact v
unfolding quantized_of
exact v e =
    let p = accepted v e in
    record {
      whole1 = whole_value (x1_of v) (wide_first v p);
      whole2 = whole_value (x2_of v) (wide_second v p);
      left1 = left_value (x1_of v) (add-fits binary64 _ _) (wide_first v p);
      left2 = left_value (x2_of v) (mul-fits binary64 _ _) (wide_second v p);
    }

-- Both leftovers of an accepted point are at least 0 and below 1, and a zero among them is plus zero.
pub in_unit : (v : Vec2d) → round_verdict v ≡ fine → InUnit (quantized_of v).r1 × InUnit (quantized_of v).r2
unfolding quantized_of
in_unit v e =
    let p = accepted v e in
    (left_range (x1_of v) (add-fits binary64 _ _) (wide_first v p), left_range (x2_of v) (mul-fits binary64 _ _) (wide_second v p))

-- A leftover is a value of the format.
pub fitting : (x : Float) → T (fits binary64 (left_of x))
fitting x = sub-fits binary64 x _

minus_one : finite (neg one) ≡ true
unfolding neg of_bits
minus_one = refl

-- `mul_add(2.0, r1, -1.)` of the branches has the same bits rounded once or twice: 2·r1 is exact.
pub once_or_twice : (v : Vec2d) → round_verdict v ≡ fine →
    let r1 = (quantized_of v).r1 in
    mul_add_once two r1 (neg one) ≡ sub binary64 (mul binary64 two r1) one
unfolding quantized_of mul_add_of sub
once_or_twice v e =
    unit_once (quantized_of v).r1 (neg one) _ _ (fitting (x1_of v)) (exact v e).left1 (mod-lt (num (x1_of v)) (den_pos (x1_of v))) minus_one
