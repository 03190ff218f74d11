-- The whole part by adding 2^52 and taking it off again: from 2^52 up to 2^53 the doubles are the whole numbers, so the sum is rounded to the nearest. Assumes nothing.
use mathlib.Core.Path.{◌≡◌, refl, sym, ap, ◌∙◌}
use mathlib.Core.Bool.{Bool, true, false, not, cond, true≢false, false≢true}
use Prim.Native.Nat.{ℕ, suc, ◌+◌, ◌-◌, ◌*◌, ◌/◌, ◌%◌, ◌^◌, ◌≤◌, ◌<◌, compare, Ordering}
use native.Mathlib.Nat.{le_trans, le_of_eq, le_antisymm, lt_of_lt_of_le, lt_of_le_of_lt, lt_of_not-le, not-le_of_lt, mul-one, one-mul, mul_assoc, mul_right_comm, add-mul, mul-le-mul_right, mul-lt-mul_of_pos_right, lt_of_mul-lt-mul_right, le_of_mul-le-mul_right, mul-pos, le-div_iff_mul-le, div-lt_iff_lt-mul, add-mul-div_right, add-mul-mod_self_right}
use native.Mathlib.Omega.{arith}
use lib.Dec.{T, ltb→lt, nltb→le, lit<, lit≤}
use lib.IntN.{ℤ, pos}
use lib.Pow.{pow_pos, pow_mono}
use lib.Ieee.{Float, nan, inf, fin, binary64, up, down, size, nearest, units, round, sum, add, sub, of_int, of_bits, lt}
use lib.Ieee.Digits.{size-lt, size-le}
use lib.Ieee.Fits.{down_pos, nearest-le, round_is}
use lib.Ieee.Exact.{HasValue, units_val}
use lib.Ieee.Nearest.{closest, nearest-ge, closest_same}
use lib.Ieee.Scale.{round_same}
use lib.Ieee.Back.{round_whole}
use Rattle.double.specs.Double.{whole_of, one}
use Rattle.double.specs.Sizes.{Upto}
use Rattle.double.proofs.Nonnegative.{signed, upto_le}
use Rattle.double.proofs.Left.{sub_is, whole_value}

-- ---- a fraction from 2^52 up to 2^53 rounds to the nearest whole number

-- a number's digits, by the powers of two around it
size_is : (n j : ℕ) → 2 ^ j ≤ n → n < 2 ^ suc j → size n ≡ suc j
size_is n j lo hi =
    le_antisymm (size-le n (suc j) hi) (lt_of_not-le (λ (g : size n ≤ j). not-le_of_lt (lt_of_lt_of_le (size-lt n) (pow_mono g)) lo))

-- In units of 2^-1074 its whole part has 53 + 1074 digits, so what is dropped is all behind the point.
round_closest : (a c : ℕ) → 0 < c → 2 ^ 52 * c ≤ a → a < 2 ^ 53 * c → round binary64 false a c ≡ units binary64 false (closest a c) 1074
round_closest a c C lo hi =
    let L = 2 ^ 1074 in
    let digits : size (a * L / c) ≡ 1127 =
    size_is (a * L / c) 1126 ((le-div_iff_mul-le C).1 (le_trans (le_of_eq (mul_right_comm (2 ^ 52) L c)) (mul-le-mul_right L lo)))
    ((div-lt_iff_lt-mul C).1 (lt_of_lt_of_le (mul-lt-mul_of_pos_right hi (pow_pos 1074)) (le_of_eq (mul_right_comm (2 ^ 53) c L)))) in
    round_is binary64 false a c
    ∙ ap (λ (z : ℕ). units binary64 false (closest (a * L) (c * 2 ^ (z - 53))) (z - 53)) digits
    ∙ ap (λ (q : ℕ). units binary64 false q 1074) (closest_same (a * L) (c * L) a c (mul-pos C (pow_pos 1074)) C (mul_right_comm a L c ∙ mul_assoc a c L))

-- ---- 2^52 added and taken off again

-- 2^52 is even, so a tie goes the same way with it and without it.
closest_plus : (a c : ℕ) → 0 < c → closest (a + 2 ^ 52 * c) c ≡ 2 ^ 52 + closest a c
closest_plus a c C = rw (add-mul-div_right a (2 ^ 52) C, add-mul-mod_self_right a (2 ^ 52) c) (go (a / c) (compare (a % c * 2) c))
  where
    go : (q : ℕ) (o : Ordering) → nearest (q + 2 ^ 52) o ≡ 2 ^ 52 + nearest q o
    go q Ordering.lt = omega arith
    go q Ordering.eq = omega arith
    go q Ordering.gt = omega arith

-- Below 2^52 the nearest whole number is at most 2^52.
closest_le : (a c : ℕ) → 0 < c → a < 2 ^ 52 * c → closest a c ≤ 2 ^ 52
closest_le a c C h = le_trans (nearest-le (a / c) (compare (a % c * 2) c)) ((div-lt_iff_lt-mul C).1 h)

-- What is left is a whole number again, so taking 2^52 off is exact.
taken_off : (a c : ℕ) → 0 < c → a < 2 ^ 52 * c → sub binary64 (round binary64 false (a + 2 ^ 52 * c) c) (fin false 1 (pos 52)) ≡ of_int binary64 (pos (closest a c))
unfolding of_int
taken_off a c C h =
    let L = 2 ^ 1074 in
    let k = closest a c in
    let sum = a + 2 ^ 52 * c in
    let top : 2 ^ 52 + k ≤ 2 ^ 53 = omega (arith, closest_le a c C h) in
    sub_is (round binary64 false sum c) (fin false 1 (pos 52)) ((2 ^ 52 + k) * L) (2 ^ 52 * L) (k * L) L (pow_pos 1074)
    (rw (round_closest sum c C (omega arith) (omega arith), closest_plus a c C) (units_val binary64 false (2 ^ 52 + k) 1074 (lt_of_le_of_lt (mul-le-mul_right L top) (lit< tt))))
    (refl, refl) (add-mul (2 ^ 52) k L)
    ∙ round_same binary64 false (k * L) L k 1 (pow_pos 1074) (lit< tt) (mul-one (k * L))

-- ---- the whole part

-- 2^52, and what the code of `floor` names `near`
abbrev far : Float
far = of_bits binary64 0x4330_0000_0000_0000

abbrev near : Float → Float
near x = sub binary64 (add binary64 x far) far

-- It is the whole number nearest to x.
near_is : (m : ℕ) (e : ℤ) → m * up e < 2 ^ 52 * down e → near (fin false m e) ≡ of_int binary64 (pos (closest (m * up e) (down e)))
unfolding of_bits add sum
near_is m e h = simp (mul-one, one-mul) (taken_off (m * up e) (down e) (down_pos e) h)

-- A number is below a whole number exactly if its whole part is.
order : (m : ℕ) (e : ℤ) (y : Float) (k : ℕ) → HasValue y false k 1
    → (T (lt (fin false m e) y) → m * up e / down e < k) × (T (not (lt (fin false m e) y)) → k ≤ m * up e / down e)
unfolding lt
order m e nan k v = absurd v
order m e (inf s) k v = absurd v
order m e (fin true n d) k v = absurd (true≢false v.0)
order m e (fin false n d) k v =
    let q : n * up d * down e ≡ k * down e * down d = ap (λ (z : ℕ). z * down e) (sym (mul-one (n * up d)) ∙ v.1) ∙ mul_right_comm k (down d) (down e) in (
      λ t. (div-lt_iff_lt-mul (down_pos e)).1 (lt_of_mul-lt-mul_right (down d) (lt_of_lt_of_le (ltb→lt _ _ t) (le_of_eq q))),
      λ t. (le-div_iff_mul-le (down_pos e)).1 (le_of_mul-le-mul_right (le_trans (le_of_eq (sym q)) (nltb→le _ _ t)) (down_pos d)),
    )

-- The nearest whole number k is the whole part w or one more; b says which.
chosen : (w k : ℕ) (b : Bool) → w ≤ k → k ≤ suc w → HasValue (of_int binary64 (pos k)) false k 1 → (T b → w < k) × (T (not b) → k ≤ w)
    → cond b (sub binary64 (of_int binary64 (pos k)) one) (of_int binary64 (pos k)) ≡ of_int binary64 (pos w)
unfolding of_int of_bits
chosen w k true low high v o = sub_is (round binary64 false k 1) one k 1 w 1 (lit< tt) v (refl, refl) (omega (arith, o.0 tt))
chosen w k false low high v o = ap (λ (z : ℕ). round binary64 false z 1) (le_antisymm (o.1 tt) low)

-- What the code of `floor` computes, by what its comparison says, is the whole part.
pub floor_is : (x : Float) → Upto (2 ^ 32 - 1) x → (b : Bool) → lt x (near x) ≡ b → cond b (sub binary64 (near x) one) (near x) ≡ of_int binary64 (pos (whole_of x))
unfolding of_int
floor_is nan p b t = absurd (false≢true p.under.number)
floor_is (inf s) p b t = absurd (false≢true p.under.number)
floor_is (fin true m e) p b t = signed m e p.plus
floor_is (fin false m e) p b t =
    let a = m * up e in
    let c = down e in
    let k = closest a c in
    let y = round binary64 false k 1 in
    let small : a < 2 ^ 52 * c = omega (arith, p.under.size, down_pos e) in
    let v = round_whole binary64 false k (le_trans (closest_le a c (down_pos e) small) (lit≤ tt)) in
    rw (← t, near_is m e small, whole_value (fin false m e) (upto_le (2 ^ 32 - 1) (2 ^ 53) (fin false m e) (lit≤ tt) p))
    (chosen (a / c) k (lt (fin false m e) y) (nearest-ge (a / c) (compare (a % c * 2) c)) (nearest-le (a / c) (compare (a % c * 2) c)) v (order m e y k v))
