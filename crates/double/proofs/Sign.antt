-- A double is told by its bits: |x| is x's bit pattern without its highest bit, and x is finite where it lies between the infinities. Assumes nothing.
use mathlib.Core.Path.{◌≡◌, refl, sym, ap, ◌∙◌, subst}
use mathlib.Core.Bool.{Bool, true, false, not, ◌&&◌, true≢false}
use Prim.Native.Nat.{ℕ, zero, suc, ◌+◌, ◌*◌, ◌%◌, ◌^◌, ◌<◌}
use native.Mathlib.Nat.{mod-eq_of_lt}
use native.Mathlib.Omega.{arith}
use lib.IntN.{ℤ}
use lib.Dec.{T}
use lib.Ieee.{Float, nan, inf, fin, binary64, fits, is_nan, nan_bits, to_bits, of_bits, lt, ne}
use lib.Ieee.Bits.{of_bits-to_bits, to_bits-lt, nan_bits_is}
use Rattle.double.specs.Double.{size_of, finite}

-- Two values of the format with the same 64 bits are one.
pub same_bits : (x y : Float) → T (fits binary64 x) → T (fits binary64 y) → to_bits binary64 x ≡ to_bits binary64 y → x ≡ y
same_bits x y f g e = sym (of_bits-to_bits binary64 x f) ∙ (ap (of_bits binary64) e ∙ of_bits-to_bits binary64 y g)

pub no_nan : (x : Float) → ne x x ≡ false → T (not (is_nan x))
unfolding ne is_nan
no_nan nan h = absurd (true≢false h)
no_nan (inf s) h = tt
no_nan (fin s m e) h = tt

pub finite_no_nan : (x : Float) → finite x ≡ true → T (not (is_nan x))
unfolding is_nan
finite_no_nan nan h = absurd (true≢false (sym h))
finite_no_nan (inf s) h = tt
finite_no_nan (fin s m e) h = tt

-- The sign decides nothing about the format, and its bit is the highest.
pub fits_size : (s t : Bool) (m : ℕ) (e : ℤ) → T (fits binary64 (fin s m e)) → T (fits binary64 (fin t m e))
unfolding fits
fits_size s t zero e h = h
fits_size s t (suc m) e h = h

regroup : (t a b : ℕ) → t + a + b ≡ t + (0 + a + b)
regroup t a b = omega arith

sign_bit : (m : ℕ) (e : ℤ) → to_bits binary64 (fin true m e) ≡ 2 ^ 63 + to_bits binary64 (fin false m e)
unfolding to_bits
sign_bit m e = regroup _ _ _

low_part : (t : ℕ) → 2 ^ 63 + t < 2 * 2 ^ 63 → t < 2 ^ 63
low_part t h = omega arith

cut : (t : ℕ) → t < 2 ^ 63 → (2 ^ 63 + t) % 2 ^ 63 ≡ t
cut t h = omega arith

pub under_sign : (m : ℕ) (e : ℤ) → T (fits binary64 (fin false m e)) → to_bits binary64 (fin false m e) < 2 ^ 63
under_sign m e h = low_part _ (subst (λ (n : ℕ). n < 2 * 2 ^ 63) (sign_bit m e) (to_bits-lt binary64 (fin true m e) (fits_size false true m e h)))

size_pattern : (s : Bool) (m : ℕ) (e : ℤ) → T (fits binary64 (fin s m e)) → to_bits binary64 (fin s m e) % 2 ^ 63 ≡ to_bits binary64 (fin false m e)
size_pattern true m e h = ap (λ (n : ℕ). n % 2 ^ 63) (sign_bit m e) ∙ cut _ (under_sign m e (fits_size true false m e h))
size_pattern false m e h = mod-eq_of_lt (under_sign m e h)

pub size_bits : (x : Float) → T (fits binary64 x) → T (not (is_nan x)) → of_bits binary64 (to_bits binary64 x % 2 ^ 63) ≡ size_of x
size_bits nan h k = absurd (unfold is_nan in k)
size_bits (inf true) h k = unfold to_bits of_bits in refl
size_bits (inf false) h k = unfold to_bits of_bits in refl
size_bits (fin s m e) h k =
    ap (λ (n : ℕ). of_bits binary64 n) (size_pattern s m e h) ∙ of_bits-to_bits binary64 (fin false m e) (fits_size s false m e h)

size_no_nan : (x : Float) → T (not (is_nan x)) → T (not (is_nan (size_of x)))
unfolding is_nan
size_no_nan nan k = k
size_no_nan (inf s) k = tt
size_no_nan (fin s m e) k = tt

pub size_bits_no_nan : (x : Float) → T (fits binary64 x) → T (not (is_nan x)) → T (not (nan_bits binary64 (to_bits binary64 x % 2 ^ 63)))
size_bits_no_nan x h k =
    subst (λ (b : Bool). T (not b)) (sym (nan_bits_is binary64 (to_bits binary64 x % 2 ^ 63) ∙ ap is_nan (size_bits x h k))) (size_no_nan x k)

pub finite_is : (x : Float) → (lt x (inf false) && lt (inf true) x) ≡ finite x
unfolding lt
finite_is nan = refl
finite_is (inf true) = refl
finite_is (inf false) = refl
finite_is (fin true m e) = refl
finite_is (fin false m e) = refl
