-- The order of finite doubles: what is below a number is below everything that is not below that number, and two numbers are not both below each other.
-- Assumes nothing.
use mathlib.Core.Path.{◌≡◌, refl, sym}
use mathlib.Core.Bool.{Bool, true, false, false≢true}
use Prim.Native.Nat.{ℕ, ◌+◌, ◌*◌, ◌≤◌, ◌<◌}
use native.Mathlib.Nat.{le_refl, le_trans, le_of_eq, le_of_lt, lt_of_lt_of_le, lt_of_le_of_lt, lt_irrefl, zero-mul, mul_right_comm, mul-le-mul_right, mul-lt-mul_of_pos_right, mul-pos, le_of_mul-le-mul_right, lt_of_mul-lt-mul_right}
use native.Mathlib.Decide.{dec_le}
use native.Mathlib.Omega.{arith}
use borrow.Author.Tests.{lt-ltb, le-ltb, ltb-true, ltb-false}
use lib.Dec.{ltb}
use lib.Ieee.{Float, nan, inf, fin, up, down, below, lt}
use lib.Ieee.Fits.{down_pos}
use lib.Ieee.Positive.{first_pos}
use Rattle.double.specs.Double.{finite}

-- fractions: x / p < y / q and y / q ≤ z / r, so x / p < z / r; and the same with the strict step last
strict : (x y z p q r : ℕ) → 0 < r → x * q < y * p → y * r ≤ z * q → x * r < z * p
strict x y z p q r R h k =
    lt_of_mul-lt-mul_right q
    (lt_of_le_of_lt (le_of_eq (mul_right_comm x r q))
    (lt_of_lt_of_le (mul-lt-mul_of_pos_right h R)
    (le_trans (le_of_eq (mul_right_comm y p r)) (le_trans (mul-le-mul_right p k) (le_of_eq (mul_right_comm z q p))))))

strict_last : (x y z p q r : ℕ) → 0 < r → z * q ≤ y * r → y * p < x * q → z * p < x * r
strict_last x y z p q r R k h =
    lt_of_mul-lt-mul_right q
    (lt_of_le_of_lt (le_trans (le_of_eq (mul_right_comm z p q)) (le_trans (mul-le-mul_right p k) (le_of_eq (mul_right_comm y r p))))
    (lt_of_lt_of_le (mul-lt-mul_of_pos_right h R) (le_of_eq (mul_right_comm x q r))))

-- a product that is 0 by a factor that is not
nothing : (b r : ℕ) → 0 < r → b * r ≤ 0 → b ≤ 0
nothing b r R h = le_of_mul-le-mul_right (le_trans h (le_of_eq (sym (zero-mul r)))) R

none_of : (b p : ℕ) → b ≤ 0 → b * p ≤ 0
none_of b p h = le_trans (mul-le-mul_right p h) (le_of_eq (zero-mul p))

module _ (a b c p q r : ℕ) (P : 0 < p) (Q : 0 < q) (R : 0 < r) where
  -- a sum of sizes is above 0 where one of them is
  some_left : (s : ℕ) → 0 < a → ltb 0 (a * r + s) ≡ true
  some_left s h = lt-ltb 0 (a * r + s) (omega (arith, mul-pos h R))

  spread : 0 < a * q + b * p → b * r ≤ c * q → ltb 0 (a * r + c * p) ≡ true
  spread h k =
      elim (dec_le a 0) [
        | no l ↦ some_left (c * p) (omega arith)
        | yes l ↦
            let bp : 0 < b * p = omega (arith, none_of a q l) in
            let cq : 0 < c * q = lt_of_lt_of_le (mul-pos (first_pos b p bp) R) k in
            lt-ltb 0 (a * r + c * p) (omega (arith, mul-pos (first_pos c q cq) P))
      ]

  weak_at : (s t w : Bool) → below s (a * q) t (b * p) ≡ true → below w (c * q) t (b * r) ≡ false → below s (a * r) w (c * p) ≡ true
  weak_at false false false h k = lt-ltb (a * r) (c * p) (strict a b c p q r R (ltb-true (a * q) (b * p) h) (ltb-false (c * q) (b * r) k))
  weak_at false false true h k =
      let none : b * p ≤ 0 = none_of b p (nothing b r R (omega (arith, ltb-false 0 (c * q + b * r) k))) in
      absurd (lt_irrefl 0 (omega (arith, ltb-true (a * q) (b * p) h)))
  weak_at false true w h k = absurd (false≢true h)
  weak_at true false false h k = spread (ltb-true 0 (a * q + b * p) h) (ltb-false (c * q) (b * r) k)
  weak_at true false true h k =
      let gone = ltb-false 0 (c * q + b * r) k in
      let no_b : b * p ≤ 0 = none_of b p (nothing b r R (omega arith)) in
      let no_c : c * p ≤ 0 = none_of c p (nothing c q Q (omega arith)) in
      let aq : 0 < a * q = omega (arith, ltb-true 0 (a * q + b * p) h) in
      lt-ltb (c * p) (a * r) (omega (arith, mul-pos (first_pos a q aq) R))
  weak_at true true false h k = some_left (c * p) (first_pos a q (omega (arith, ltb-true (b * p) (a * q) h)))
  weak_at true true true h k = lt-ltb (c * p) (a * r) (strict_last a b c p q r R (ltb-false (b * r) (c * q) k) (ltb-true (b * p) (a * q) h))

asym_at : (a b : ℕ) (s t : Bool) → below s a t b ≡ true → below t b s a ≡ false
asym_at a b false false h = le-ltb b a (le_of_lt (ltb-true a b h))
asym_at a b false true h = absurd (false≢true h)
asym_at a b true false h = refl
asym_at a b true true h = le-ltb a b (le_of_lt (ltb-true b a h))

-- What is below a number is below everything that is not below that number.
pub below_all : (x y z : Float) → finite x ≡ true → finite y ≡ true → finite z ≡ true → lt x y ≡ true → lt z y ≡ false → lt x z ≡ true
unfolding lt
below_all nan y z f g h k l = absurd (false≢true f)
below_all (inf s) y z f g h k l = absurd (false≢true f)
below_all (fin s m e) nan z f g h k l = absurd (false≢true g)
below_all (fin s m e) (inf t) z f g h k l = absurd (false≢true g)
below_all (fin s m e) (fin t n d) nan f g h k l = absurd (false≢true h)
below_all (fin s m e) (fin t n d) (inf w) f g h k l = absurd (false≢true h)
below_all (fin s m e) (fin t n d) (fin w o i) f g h k l =
    weak_at (m * up e) (n * up d) (o * up i) (down e) (down d) (down i) (down_pos e) (down_pos d) (down_pos i) s t w k l

-- Two numbers are not both below each other.
pub not_both : (x y : Float) → finite x ≡ true → finite y ≡ true → lt x y ≡ true → lt y x ≡ false
unfolding lt
not_both nan y f g h = absurd (false≢true f)
not_both (inf s) y f g h = absurd (false≢true f)
not_both (fin s m e) nan f g h = absurd (false≢true g)
not_both (fin s m e) (inf t) f g h = absurd (false≢true g)
not_both (fin s m e) (fin t n d) f g h = asym_at (m * up e * down d) (n * up d * down e) s t h

-- No number is below itself.
pub not_itself : (x : Float) → finite x ≡ true → lt x x ≡ false
unfolding lt
not_itself nan f = refl
not_itself (inf s) f = absurd (false≢true f)
not_itself (fin true m e) f = le-ltb _ _ (le_refl (m * up e * down e))
not_itself (fin false m e) f = le-ltb _ _ (le_refl (m * up e * down e))
