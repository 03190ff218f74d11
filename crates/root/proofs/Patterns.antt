-- The bit pattern of a finite double that is not below zero: its bounds, and its value in units. Assumes nothing.
use mathlib.Core.Path.{◌≡◌, refl, sym, ap, ◌∙◌, subst}
use mathlib.Core.Bool.{Bool, true, false, not, cond, false≢true}
use Prim.Native.Nat.{ℕ, zero, suc, ◌+◌, ◌-◌, ◌*◌, ◌/◌, ◌%◌, ◌^◌, ◌≤◌, ◌<◌}
use native.Mathlib.Nat.{le_trans, le_of_lt, lt_irrefl, le_of_suc-le-suc, zero-lt-suc, mul-pos, zero-mul, mul-one, mod-le, mod-eq_of_lt, add_comm}
use mathlib.Core.Logic.{◌≢◌}
use native.Mathlib.Omega.{arith}
use lib.IntN.{ℤ}
use lib.Arith.{lt→nleb, le→nltb, lt_of_le-ne}
use lib.Dec.{T, T_not, leb, ltb, eqb, lt→ltb}
use lib.Pow.{pow_pos}
use lib.Ieee.{Float, nan, inf, fin, binary64, up, down, odd, fits, nan_bits, to_bits, of_bits, of_fields}
use lib.Ieee.Fits.{up_pos, eq→eqb}
use lib.Ieee.Exact.{HasValue, odd_sign}
use lib.Ieee.Bits.{of_bits-to_bits, nan_bits_above, is_true, is_false}
use Rattle.reply.specs.Choice.{pick}
use Rattle.double.specs.Double.{finite}
use Rattle.double.specs.Sizes.{units_of}
use Rattle.double.proofs.Sign.{under_sign}
use Rattle.double.proofs.Units.{units_of_lem}
use Rattle.root.specs.AsWorked.{units_of_bits}

-- ---- the fields

-- the value of an exponent's field x and the digits t, in units
abbrev field_units : ℕ → ℕ → ℕ
field_units zero t = t * 2 ^ 0
field_units (suc x) t = (2 ^ 52 + t) * 2 ^ x

fields_finite : (x t : ℕ) → x < 2048 → finite (of_fields binary64 false x t) ≡ true → (x < 2047) × HasValue (of_fields binary64 false x t) false (field_units x t) (2 ^ 1074)
unfolding of_fields
fields_finite zero t X f = (omega arith, odd_sign 53 false t 0 1074)
fields_finite (suc x) t X f = go (eqb (suc x) 2047) (λ n e. T_not (eqb (suc x) 2047) n (eq→eqb e)) (eqb t 0) f
  where
    go : (b : Bool) → (T (not b) → suc x ≢ 2047) → (c : Bool) → finite (cond b (cond c (inf false) nan) (odd 53 false (2 ^ 52 + t) x 1074)) ≡ true
        → (suc x < 2047) × HasValue (cond b (cond c (inf false) nan) (odd 53 false (2 ^ 52 + t) x 1074)) false ((2 ^ 52 + t) * 2 ^ x) (2 ^ 1074)
    go true h true g = absurd (false≢true g)
    go true h false g = absurd (false≢true g)
    go false h c g = (lt_of_le-ne (le_of_suc-le-suc X) (h tt), odd_sign 53 false (2 ^ 52 + t) x 1074)

less : (y x : ℕ) → y ≡ suc x → x ≡ y - 1
less y x e = omega arith

field_units_lem : (b : ℕ) → field_units (b / 2 ^ 52) (b % 2 ^ 52) ≡ units_of_bits b
field_units_lem b = go (b / 2 ^ 52) refl
  where
    go : (x : ℕ) → b / 2 ^ 52 ≡ x → field_units x (b % 2 ^ 52) ≡ units_of_bits b
    go zero e =
        let l : b < 2 ^ 52 = omega arith in
        mul-one (b % 2 ^ 52)
        ∙ mod-eq_of_lt l
        ∙ sym (ap (λ (t : Bool). pick t b ((b % 2 ^ 52 + 2 ^ 52) * 2 ^ (b / 2 ^ 52 - 1))) (is_true (ltb b (2 ^ 52)) (lt→ltb b (2 ^ 52) l)))
    go (suc x) e =
        let l : 2 ^ 52 ≤ b = omega arith in
        ap (λ (k : ℕ). k * 2 ^ x) (add_comm (2 ^ 52) (b % 2 ^ 52))
        ∙ ap (λ (k : ℕ). (b % 2 ^ 52 + 2 ^ 52) * 2 ^ k) (less (b / 2 ^ 52) x e)
        ∙ sym (ap (λ (t : Bool). pick t b ((b % 2 ^ 52 + 2 ^ 52) * 2 ^ (b / 2 ^ 52 - 1))) (is_false (ltb b (2 ^ 52)) (le→nltb b (2 ^ 52) l)))

-- a pattern without a sign is read as its fields
read : (b : ℕ) → b < 2 ^ 63 → of_bits binary64 b ≡ of_fields binary64 false (b / 2 ^ 52) (b % 2 ^ 52)
unfolding of_bits
read b h =
    ap (λ (s : Bool). of_fields binary64 s (b % 2 ^ 63 / 2 ^ 52) (b % 2 ^ 52)) (is_false (leb (2 ^ 63) b) (lt→nleb (2 ^ 63) b h))
    ∙ ap (λ (k : ℕ). of_fields binary64 false (k / 2 ^ 52) (b % 2 ^ 52)) (mod-eq_of_lt h)

pub record Pattern (m : ℕ) (e : ℤ) (b : ℕ) : Type 0 where
  pub below : b < 2047 * 2 ^ 52
  pub value : m * up e * 2 ^ 1074 ≡ units_of_bits b * down e

pub pattern : (m : ℕ) (e : ℤ) → T (fits binary64 (fin false m e)) → Pattern m e (to_bits binary64 (fin false m e))
pattern m e f =
    let b = to_bits binary64 (fin false m e) in
    let l = under_sign m e f in
    let r : of_fields binary64 false (b / 2 ^ 52) (b % 2 ^ 52) ≡ fin false m e = sym (read b l) ∙ of_bits-to_bits binary64 (fin false m e) f in
    let w = fields_finite (b / 2 ^ 52) (b % 2 ^ 52) (field_bound b l) (ap finite r) in
    record {
      below = bound b w.0;
      value = (subst (λ (x : Float). HasValue x false (field_units (b / 2 ^ 52) (b % 2 ^ 52)) (2 ^ 1074)) r w.1).1 ∙ ap (λ (k : ℕ). k * down e) (field_units_lem b);
    }
  where
    field_bound : (b : ℕ) → b < 2 ^ 63 → b / 2 ^ 52 < 2048
    field_bound b h = omega arith

    bound : (b : ℕ) → b / 2 ^ 52 < 2047 → b < 2047 * 2 ^ 52
    bound b h = omega arith

pub units_are : (m : ℕ) (e : ℤ) → T (fits binary64 (fin false m e)) → units_of (fin false m e) ≡ units_of_bits (to_bits binary64 (fin false m e))
units_are m e f = units_of_lem (fin false m e) (units_of_bits (to_bits binary64 (fin false m e))) (pattern m e f).value

pub bits_pos : (m : ℕ) (e : ℤ) → T (fits binary64 (fin false m e)) → 0 < m → 0 < to_bits binary64 (fin false m e)
bits_pos m e f M = go (to_bits binary64 (fin false m e)) (pattern m e f).value
  where
    go : (b : ℕ) → m * up e * 2 ^ 1074 ≡ units_of_bits b * down e → 0 < b
    go zero v = absurd (lt_irrefl 0 (subst (λ (k : ℕ). 0 < k) (v ∙ zero-mul (down e)) (mul-pos (mul-pos M (up_pos e)) (pow_pos 1074))))
    go (suc b) v = zero-lt-suc b

-- A pattern below the infinity's is no NaN's.
pub small_no_nan : (b : ℕ) → b < 2047 * 2 ^ 52 → T (not (nan_bits binary64 b))
small_no_nan b h = subst (λ (t : Bool). T (not t)) (sym (nan_bits_above binary64 b)) (le→nltb (2047 * 2 ^ 52) (b % 2 ^ 63) (le_trans (mod-le b (2 ^ 63)) (le_of_lt h)))
