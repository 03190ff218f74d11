-- How true every margin is that is answered: above -(2^-41 + 2^-51), and that of the exact leftovers but for less than 2^-51. And no point that rounding
-- accepts is refused one. Assumes nothing.
use Rattle.reply.specs.Replies.{fine}
use Rattle.std.proofs.Common.{◌≡◌, ℕ, ◌+◌, ◌*◌, ◌^◌, ◌<◌, true, false, T, refl, mul_comm, mul-lt-mul_of_pos_right}
use mathlib.Core.Bool.{false≢true}
use lib.Ieee.{Float, nan, inf, fin, binary64, fits}
use lib.Ieee.Positive.{num, den, den_pos}
use Rattle.double.specs.Double.{finite, size_of}
use Rattle.double.proofs.Left.{InUnit, over}
use Rattle.double.proofs.Sign.{fits_size}
use Rattle.vec2d.specs.declared.Vec2d.{Vec2d}
use Rattle.vec2d.specs.declared.Leftovers.{Leftovers}
use Rattle.vec2d.specs.Rounding.{round_verdict, x1_of, x2_of, quantized_of, steps_of, leftovers_of}
use Rattle.vec2d.proofs.Exact.{in_unit, fitting}
use Rattle.vec2d.proofs.Unique.{HeldLeft}
use Rattle.margin.specs.Margins.{is_leftover, reach_in, reach_of, margin_verdict}
use Rattle.margin.proofs.Counting.{below_one, taken}
use Rattle.margin.proofs.Scaling.{Fraction}
use Rattle.margin.proofs.Bounds as bounds

-- A leftover's size is the fraction num / den, which is below 1.
fraction : (r : Float) → T (fits binary64 r) → is_leftover r ≡ true → Fraction (size_of r) (num r) (den r)
fraction r f h = let b = below_one r h in go r f b.0 b.1
  where
    go : (r : Float) → T (fits binary64 r) → finite r ≡ true → num r < den r → Fraction (size_of r) (num r) (den r)
    go nan f n l = absurd (false≢true n)
    go (inf s) f n l = absurd (false≢true n)
    go (fin s m e) f n l = record { fine = fits_size s false m e f; value = (refl, refl); low = l }

-- the same over a common denominator
widened : (r : Float) (a d k : ℕ) → 0 < k → Fraction r a d → Fraction r (a * k) (d * k)
widened r a d k o f = record { fine = f.fine; value = over r a d k f.value; low = mul-lt-mul_of_pos_right f.low o }

-- Any two leftovers that a program holds and that get a margin.
module _ (l : Leftovers) (held : HeldLeft l) (answered : margin_verdict l ≡ fine) where
  -- both are fractions over the product of the two denominators
  abbrev pub all : ℕ
  all = den l.r1 * den l.r2

  abbrev pub first : ℕ
  first = num l.r1 * den l.r2

  abbrev pub second : ℕ
  second = num l.r2 * den l.r1

  first_fraction : Fraction (size_of l.r1) first all
  first_fraction = widened _ _ _ (den l.r2) (den_pos l.r2) (fraction l.r1 held.r1 (taken l answered).0)

  second_fraction : Fraction (size_of l.r2) second all
  second_fraction = rw (mul_comm (den l.r1) (den l.r2)) (widened _ _ _ (den l.r1) (den_pos l.r1) (fraction l.r2 held.r2 (taken l answered).1))

  -- The margin is above -(2^-41 + 2^-51): only the cut and the rounded tests of the branches can put a point over a border, and not further.
  pub margin_low : reach_of l < 2 ^ 51 + 2 ^ 11 + 2
  margin_low = bounds.reach_low l all first second first_fraction second_fraction

  -- And it is the margin of the exact leftovers but for less than 2^-51: said of the reach, in parts of 1 / (2^51 · all).
  pub margin_true : let r = reach_in all first second (steps_of (size_of l.r1) (size_of l.r2)) in (reach_of l * all < 2 ^ 51 * r + 2 * all) × (2 ^ 51 * r < reach_of l * all + 2 * all)
  margin_true = (
    bounds.reach_above l all first second first_fraction second_fraction,
    bounds.reach_below l all first second first_fraction second_fraction,
  )

passes : (r : Float) → InUnit r → is_leftover r ≡ true
unfolding is_leftover
passes r u = rw (u.low, u.high)

module _ (v : Vec2d) (clear : round_verdict v ≡ fine) where
  -- No leftovers that rounding gives are refused a margin.
  pub never_five : margin_verdict (leftovers_of v) ≡ fine
  never_five = rw (passes _ (in_unit v clear).0, passes _ (in_unit v clear).1)

  -- and a program can hold them
  pub left_held : HeldLeft (leftovers_of v)
  unfolding quantized_of
  left_held = record { r1 = fitting (x1_of v); r2 = fitting (x2_of v) }
