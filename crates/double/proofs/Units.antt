-- Operations on doubles as operations on whole numbers of units, 2^-1074: every double is a whole number of them, the product of X and Y units rounds to
-- `times_u X Y`, and so for a sum and a quotient. What rounding leaves of each is in `Times`, `Plus` and `Over`. Assumes nothing.
use mathlib.Core.Path.{◌≡◌, sym, ap, ◌∙◌, subst}
use mathlib.Core.Bool.{Bool, true, false, not, cond, true≢false, false≢true}
use Prim.Native.Nat.{ℕ, zero, suc, ◌+◌, ◌-◌, ◌*◌, ◌/◌, ◌^◌, ◌≤◌, ◌<◌}
use native.Mathlib.Nat.{le_of_eq, le_refl, lt_irrefl, mul-mul-mul_comm, mul_assoc, mul_comm, mul_right_comm, mul-one, one-mul, add-mul, mul-pos, eq_of_mul-eq-mul_right, mul-div_cancel}
use lib.IntN.{ℤ, pos, negsuc}
use lib.Dec.{T, ltb, eqb, eqb-suc-zero, ltb→lt}
use lib.Pow.{pow-add, pow_pos}
use lib.Ieee.{Float, nan, inf, fin, binary64, up, down, unlike, odd, units, round, fits, sum, add, mul, div}
use lib.Ieee.Digits.{Equals, back}
use lib.Ieee.Fits.{down_pos, round_is}
use lib.Ieee.Exact.{HasValue, units_val}
use lib.Ieee.Scale.{grid, overflow, round_same}
use lib.Ieee.Bits.{cond_no}
use lib.Ieee.Positive.{first_pos}
use Rattle.double.specs.Double.{finite}
use Rattle.double.specs.Sizes.{units_of}
use Rattle.double.proofs.Left.{pow_le_back, fits_digits}
use Rattle.double.proofs.Once.{sum_same}
use Rattle.double.proofs.Near.{Rel, Rounded, rounded, rel_cancel, rel_le}

-- p is x · y, t is x + y and b is a / l, each rounded
pub record Times (L x y p : ℕ) : Type 0 where
  pub most : Rel (2 ^ 52) (p * L) (x * y + L)
  pub least : Rel (2 ^ 52) (x * y) (p * L + L)

pub record Plus (x y t : ℕ) : Type 0 where
  pub most : Rel (2 ^ 52) t (x + y + 1)
  pub least : Rel (2 ^ 52) (x + y) (t + 1)

pub record Over (L a l b : ℕ) : Type 0 where
  pub most : Rel (2 ^ 52) (b * l) (a * L + l)
  pub least : Rel (2 ^ 52) (a * L) (b * l + l)

-- units in 1
abbrev pub L : ℕ
L = 2 ^ 1074

pub L_pos : 0 < L
L_pos = pow_pos 1074

-- ---- every double is a whole number of units: its digits times a power of two

power_of : (e : ℤ) → down e ≤ L → (j : ℕ) × (up e * L ≡ 2 ^ j * down e)
power_of (pos k) h = (k + 1074, sym (pow-add 2 k 1074) ∙ sym (mul-one (2 ^ (k + 1074))))
power_of (negsuc k) h =
    let j = 1074 - suc k in
    (j, one-mul L ∙ ap (λ (n : ℕ). 2 ^ n) (sym (back 1074 (suc k) (pow_le_back (suc k) 1074 h))) ∙ pow-add 2 j (suc k))

whole_units : (m : ℕ) (e : ℤ) → down e ≤ L → (j : ℕ) × (m * up e * L ≡ m * 2 ^ j * down e)
whole_units m e h = let p = power_of e h in (p.0, mul_assoc m (up e) L ∙ ap (λ (n : ℕ). m * n) p.1 ∙ sym (mul_assoc m (2 ^ p.0) (down e)))

pub units_equal : (x : Float) → T (fits binary64 x) → finite x ≡ true → Equals x (units_of x) L
units_equal nan f h = absurd (false≢true h)
units_equal (inf s) f h = absurd (false≢true h)
units_equal (fin s m e) f h =
    let w = whole_units m e (fits_digits s m e f).1 in
    let q : m * up e * L / down e ≡ m * 2 ^ w.0 = ap (λ (n : ℕ). n / down e) w.1 ∙ mul-div_cancel (m * 2 ^ w.0) (down_pos e) in
    w.1 ∙ ap (λ (n : ℕ). n * down e) (sym q)

-- whatever fraction of units a double is, it is these
pub units_of_lem : (x : Float) (n : ℕ) → Equals x n L → units_of x ≡ n
units_of_lem nan n v = absurd v
units_of_lem (inf s) n v = absurd v
units_of_lem (fin s m e) n v = ap (λ (k : ℕ). k / down e) v ∙ mul-div_cancel n (down_pos e)

-- 53 digits, and a power of two
pub record OnGrid (n : ℕ) : Type 0 where
  pub digits : ℕ
  pub power : ℕ
  pub few : digits < 2 ^ 53
  pub is : n ≡ digits * 2 ^ power

pub on_grid : (x : Float) → T (fits binary64 x) → finite x ≡ true → OnGrid (units_of x)
on_grid nan f h = absurd (false≢true h)
on_grid (inf s) f h = absurd (false≢true h)
on_grid (fin s m e) f h =
    let d = fits_digits s m e f in
    let w = whole_units m e d.1 in
    record { digits = m; power = w.0; few = d.0; is = units_of_lem (fin s m e) (m * 2 ^ w.0) w.1 }

-- ---- a rounded number

pub round_sized : (s : Bool) (a c : ℕ) → grid binary64 a c < overflow binary64 → HasValue (round binary64 s a c) s (grid binary64 a c) L
round_sized s a c h = subst (λ (z : Float). HasValue z s (grid binary64 a c) L) (sym (round_is binary64 s a c)) (units_val binary64 s _ _ h)

units_finite : (s : Bool) (q k : ℕ) → finite (units binary64 s q k) ≡ true → q * 2 ^ k < overflow binary64
unfolding units
units_finite s q k = from (ltb (q * 2 ^ k) (overflow binary64)) (ltb→lt (q * 2 ^ k) (overflow binary64))
  where
    from : (b : Bool) → (T b → q * 2 ^ k < overflow binary64) → finite (cond b (odd 54 s q k 1074) (inf s)) ≡ true → q * 2 ^ k < overflow binary64
    from true h t = h tt
    from false h t = absurd (false≢true t)

pub round_finite : (s : Bool) (a c : ℕ) → finite (round binary64 s a c) ≡ true → grid binary64 a c < overflow binary64
round_finite s a c t = units_finite s _ _ (ap finite (sym (round_is binary64 s a c)) ∙ t)

-- what a rounded number is, where it is a number
pub value_of : (y : Float) (a c : ℕ) → y ≡ round binary64 false a c → finite y ≡ true → HasValue y false (grid binary64 a c) L
value_of y a c e h = subst (λ (z : Float). HasValue z false (grid binary64 a c) L) (sym e) (round_sized false a c (round_finite false a c (ap finite (sym e) ∙ h)))

pub equals_of : (x : Float) (s : Bool) (a c : ℕ) → HasValue x s a c → Equals x a c
equals_of nan s a c h = h
equals_of (inf t) s a c h = h
equals_of (fin t m e) s a c h = h.1

abbrev pub sign : Float → Bool
sign nan = false
sign (inf s) = s
sign (fin s m e) = s

-- ---- the product

abbrev pub times_u : ℕ → ℕ → ℕ
times_u X Y = grid binary64 (X * Y) (L * L)

pub mul_round : (x y : Float) (X Y : ℕ) → Equals x X L → Equals y Y L → mul binary64 x y ≡ round binary64 (unlike (sign x) (sign y)) (X * Y) (L * L)
unfolding mul
mul_round nan y X Y p q = absurd p
mul_round (inf s) y X Y p q = absurd p
mul_round (fin s m e) nan X Y p q = absurd q
mul_round (fin s m e) (inf t) X Y p q = absurd q
mul_round (fin s m e) (fin t n d) X Y p q =
    round_same binary64 (unlike s t) (m * up e * (n * up d)) (down e * down d) (X * Y) (L * L) (mul-pos (down_pos e) (down_pos d)) (mul-pos L_pos L_pos)
    (mul-mul-mul_comm (m * up e) (n * up d) L L ∙ ap (λ (k : ℕ). k * (n * up d * L)) p ∙ ap (λ (k : ℕ). X * down e * k) q ∙ mul-mul-mul_comm X (down e) Y (down d))

-- with `rounded` over the denominator L * L, one L taken out
pub times_near : (X Y : ℕ) → Times L X Y (times_u X Y)
times_near X Y = go L L_pos (times_u X Y) (rounded (X * Y) (L * L) (mul-pos L_pos L_pos))
  where
    go : (L : ℕ) → 0 < L → (g : ℕ) → Rounded (X * Y * L) (L * L) g → Times L X Y g
    go L P g r = record {
      most = rel_cancel (g * L) (X * Y + L) L P (rel_le (le_of_eq (mul_assoc g L L)) r.most (le_of_eq (sym (add-mul (X * Y) L L))));
      least = rel_cancel (X * Y) (g * L + L) L P (rel_le (le_refl (X * Y * L)) r.least (le_of_eq (sym (add-mul (g * L) L L ∙ ap (λ (k : ℕ). k + L * L) (mul_assoc g L L)))));
    }

-- ---- the sum of any two, and so the difference: `sum` at whole numbers of units

pub add_sum : (x y : Float) (X Y : ℕ) → Equals x X L → Equals y Y L → add binary64 x y ≡ sum binary64 (sign x) X (sign y) Y L
unfolding add
add_sum nan y X Y p q = absurd p
add_sum (inf s) y X Y p q = absurd p
add_sum (fin s m e) nan X Y p q = absurd q
add_sum (fin s m e) (inf t) X Y p q = absurd q
add_sum (fin s m e) (fin t n d) X Y p q =
    sum_same s t (m * up e * down d) (n * up d * down e) (down e * down d) X Y L (mul-pos (down_pos e) (down_pos d)) L_pos
    (mul_right_comm (m * up e) (down d) L ∙ ap (λ (k : ℕ). k * down d) p ∙ mul_assoc X (down e) (down d))
    (mul_right_comm (n * up d) (down e) L ∙ ap (λ (k : ℕ). k * down e) q ∙ mul_assoc Y (down d) (down e) ∙ ap (λ (k : ℕ). Y * k) (mul_comm (down d) (down e)))

-- ---- the sum of two that are not negative

abbrev pub plus_u : ℕ → ℕ → ℕ
plus_u X Y = grid binary64 (X + Y) L

pub add_round : (x y : Float) (X Y : ℕ) → HasValue x false X L → HasValue y false Y L → add binary64 x y ≡ round binary64 false (X + Y) L
unfolding sum
add_round nan y X Y p q = absurd p
add_round (inf s) y X Y p q = absurd p
add_round (fin true m e) y X Y p q = absurd (true≢false p.0)
add_round (fin false m e) nan X Y p q = absurd q
add_round (fin false m e) (inf t) X Y p q = absurd q
add_round (fin false m e) (fin true n d) X Y p q = absurd (true≢false q.0)
add_round (fin false m e) (fin false n d) X Y p q = add_sum (fin false m e) (fin false n d) X Y p.1 q.1

pub plus_near : (X Y : ℕ) → Plus X Y (plus_u X Y)
plus_near X Y = go L L_pos (plus_u X Y) (rounded (X + Y) L L_pos)
  where
    go : (L : ℕ) → 0 < L → (g : ℕ) → Rounded ((X + Y) * L) L g → Plus X Y g
    go L P g r = record {
      most = rel_cancel g (X + Y + 1) L P (rel_le (le_refl (g * L)) r.most (le_of_eq (sym (add-mul (X + Y) 1 L ∙ ap (λ (k : ℕ). (X + Y) * L + k) (one-mul L)))));
      least = rel_cancel (X + Y) (g + 1) L P (rel_le (le_refl ((X + Y) * L)) r.least (le_of_eq (sym (add-mul g 1 L ∙ ap (λ (k : ℕ). g * L + k) (one-mul L)))));
    }

-- ---- the quotient by one above zero

abbrev pub over_u : ℕ → ℕ → ℕ
over_u A Λ = grid binary64 A Λ

pub div_round : (x l : Float) (A Λ : ℕ) → 0 < Λ → Equals x A L → HasValue l false Λ L → div binary64 x l ≡ round binary64 (unlike (sign x) false) A Λ
unfolding div
div_round nan l A Λ P p q = absurd p
div_round (inf s) l A Λ P p q = absurd p
div_round (fin s m e) nan A Λ P p q = absurd q
div_round (fin s m e) (inf t) A Λ P p q = absurd q
div_round (fin s m e) (fin true n d) A Λ P p q = absurd (true≢false q.0)
div_round (fin s m e) (fin false n d) A Λ P p q =
    let z : 0 < n * up d = first_pos (n * up d) L (subst (λ (k : ℕ). 0 < k) (sym q.1) (mul-pos P (down_pos d))) in
    cond_no (eqb n 0) _ _ (pos→neqb n (first_pos n (up d) z))
    ∙ round_same binary64 (unlike s false) (m * up e * down d) (n * up d * down e) A Λ (mul-pos z (down_pos e)) P
    (eq_of_mul-eq-mul_right L L_pos (m * up e * down d * Λ) (A * (n * up d * down e)) cross)
  where
    pos→neqb : (t : ℕ) → 0 < t → T (not (eqb t 0))
    pos→neqb zero h = absurd (lt_irrefl 0 h)
    pos→neqb (suc t) h = subst (λ (b : Bool). T (not b)) (sym (eqb-suc-zero t)) tt

    cross : m * up e * down d * Λ * L ≡ A * (n * up d * down e) * L
    cross =
        let a = m * up e in
        let b = n * up d in
        mul_right_comm (a * down d) Λ L
        ∙ ap (λ (k : ℕ). k * Λ) (mul_right_comm a (down d) L ∙ ap (λ (k : ℕ). k * down d) p)
        ∙ mul_assoc (A * down e) (down d) Λ
        ∙ ap (λ (k : ℕ). A * down e * k) (mul_comm (down d) Λ ∙ sym q.1)
        ∙ mul_assoc A (down e) (b * L)
        ∙ ap (λ (k : ℕ). A * k) (mul_comm (down e) (b * L) ∙ mul_right_comm b L (down e))
        ∙ sym (mul_assoc A (b * down e) L)

pub over_near : (A Λ : ℕ) → 0 < Λ → Over L A Λ (over_u A Λ)
over_near A Λ P = let r = rounded A Λ P in record { most = r.most; least = r.least }
