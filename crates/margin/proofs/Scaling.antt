-- A leftover times 2^51 is exact, so that its parts are its whole 2^51sts: none is lost to rounding, and less than one is left. Assumes nothing.
use Rattle.std.proofs.Common.{◌≡◌, ℕ, suc, ◌+◌, ◌-◌, ◌*◌, ◌/◌, ◌^◌, ◌<◌, ◌≤◌, true, false, T, ℤ, pos, negsuc, sym, refl, ap, ◌∙◌, true≢false, lt_of_lt_of_le, mul-le-mul_right, mul_assoc, le_antisymm, lt_of_mul-lt-mul_right, mul-lt-mul_of_pos_right, mul-one, div-mul-le_self, le_of_mul-le-mul_right, arith, lit<, lit≤, pow_pos, pow_mono, pow-add, shl_lt}
use native.Mathlib.Nat.{lt-div-mul-add}
use lib.Ieee.{Float, nan, inf, fin, binary64, up, down, fits, of_bits, round, mul}
use lib.Ieee.Digits.{back}
use lib.Ieee.Fits.{down_pos}
use lib.Ieee.Exact.{HasValue, round_exact}
use lib.Ieee.Positive.{num, den}
use Rattle.double.specs.Sizes.{Upto}
use Rattle.double.proofs.Left.{pow_le_back, fits_digits, whole_value}
use Rattle.double.proofs.Nonnegative.{upto_le}
use Rattle.margin.specs.Margins.{unit, parts_of}
use Rattle.margin.proofs.Counting.{parts_upto}

-- ---- the product

below : (m k : ℕ) → m < 2 ^ 53 → 2 ^ suc k ≤ 2 ^ 1074 → HasValue (round binary64 false (m * 2 ^ 51) (2 ^ suc k)) false (m * 2 ^ 51) (2 ^ suc k)
below m k a h =
    let fine : suc k ≤ 1074 = pow_le_back (suc k) 1074 h in
    let j = 1125 - suc k in
    let room : 53 + j ≤ 2098 = omega arith in
    let e : 2 ^ 1125 ≡ 2 ^ j * 2 ^ suc k = ap (λ (n : ℕ). 2 ^ n) (sym (back 1125 (suc k) (omega arith))) ∙ pow-add 2 j (suc k) in
    round_exact binary64 false (m * 2 ^ 51) (2 ^ suc k) m j (pow_pos (suc k)) a (lt_of_lt_of_le (shl_lt 53 j a) (pow_mono room))
    (mul_assoc m (2 ^ 51) (2 ^ 1074) ∙ ap (λ (z : ℕ). m * z) e ∙ sym (mul_assoc m (2 ^ j) (2 ^ suc k)))

-- from 2^0 up nothing but zero is below 1
none : (x : ℕ) → x < 1 → HasValue (round binary64 false (x * 2 ^ 51) 1) false (x * 2 ^ 51) 1
none x h =
    let z : x * 2 ^ 51 ≡ 0 = omega arith in
    round_exact binary64 false (x * 2 ^ 51) 1 0 0 (lit< tt) (lit< tt) (lit< tt) (ap (λ (n : ℕ). n * 2 ^ 1074) z)

scaled : (m : ℕ) (e : ℤ) → T (fits binary64 (fin false m e)) → m * up e < down e → HasValue (round binary64 false (m * up e * 2 ^ 51) (down e)) false (m * up e * 2 ^ 51) (down e)
scaled m (pos k) f h = none (m * 2 ^ k) h
scaled m (negsuc k) f h = let d = fits_digits false m (negsuc k) f in rw mul-one (below m k d.0 d.1)

product : (m : ℕ) (e : ℤ) → mul binary64 (fin false m e) unit ≡ round binary64 false (m * up e * 2 ^ 51) (down e)
unfolding mul of_bits
product m e = λ n. round binary64 false (m * up e * 2 ^ 51) (mul-one (down e) n)

-- ---- the parts

-- a leftover as a fraction a / d: a value of the format, not below zero and below 1
pub record Fraction (r : Float) (a d : ℕ) : Type 0 where
  pub fine : T (fits binary64 r)
  pub value : HasValue r false a d
  pub low : a < d

-- the whole part of a value M · 2^51 / D, over a fraction a / d that is M / D
floored : (y : Float) (M D a d : ℕ) → 0 < D → 0 < d → HasValue y false (M * 2 ^ 51) D → M * d ≡ a * D → let q = num y / den y in (q * d ≤ 2 ^ 51 * a) × (2 ^ 51 * a < q * d + d)
floored nan M D a d p o v e = absurd v
floored (inf s) M D a d p o v e = absurd v
floored (fin s m x) M D a d p o v e =
    go (m * up x) (down x) (m * up x / down x) (down_pos x) v.1 (div-mul-le_self (m * up x) (down x)) (lt-div-mul-add {a = m * up x} {b = down x} (down_pos x))
  where
    go : (N E q : ℕ) → 0 < E → N * D ≡ M * 2 ^ 51 * E → q * E ≤ N → N < q * E + E → (q * d ≤ 2 ^ 51 * a) × (2 ^ 51 * a < q * d + d)
    go N E q E_pos f l h =
        let same : N * d * D ≡ 2 ^ 51 * a * E * D = omega (arith, ap (λ (z : ℕ). z * d) f, ap (λ (z : ℕ). z * (2 ^ 51 * E)) e) in
        let is : N * d ≡ 2 ^ 51 * a * E = le_antisymm (le_of_mul-le-mul_right {k = D} (omega arith) p) (le_of_mul-le-mul_right {k = D} (omega arith) p) in
        let under : 2 ^ 51 * a * E < (q * d + d) * E = omega (arith, is, mul-lt-mul_of_pos_right h o) in
        (le_of_mul-le-mul_right {k = E} (omega (arith, mul-le-mul_right d l)) E_pos, lt_of_mul-lt-mul_right E under)

-- The parts of a leftover a / d are the whole part of 2^51 · a / d.
pub parts_told : (r : Float) (a d : ℕ) → Fraction r a d → let q = parts_of r in (q * d ≤ 2 ^ 51 * a) × (2 ^ 51 * a < q * d + d)
unfolding parts_of
parts_told nan a d f = absurd f.value
parts_told (inf s) a d f = absurd f.value
parts_told (fin true m e) a d f = absurd (true≢false f.value.0)
parts_told (fin false m e) a d f =
    let y = mul binary64 (fin false m e) unit in
    let o : 0 < d = omega (arith, f.low) in
    let below_one : m * up e < down e = lt_of_mul-lt-mul_right d (omega (arith, f.value.1, mul-lt-mul_of_pos_right f.low (down_pos e))) in
    let upto : Upto 1 (fin false m e) = record { under = record { number = refl; size = omega (arith, below_one) }; plus = refl } in
    let v : HasValue y false (m * up e * 2 ^ 51) (down e) = rw product (scaled m e f.fine below_one) in
    rw (whole_value y (upto_le (2 ^ 51) (2 ^ 53) y (lit≤ tt) (parts_upto (fin false m e) upto))) (floored y (m * up e) (down e) a d (down_pos e) o v f.value.1)
