-- Which patterns of a double are a NaN's. Assumes nothing.
use mathlib.Core.Path.{◌≡◌, refl, sym, ◌∙◌, subst}
use mathlib.Core.Bool.{Bool, true, not, false≢true}
use Prim.Native.Nat.{ℕ, ◌%◌, ◌≤◌, ◌<◌}
use lib.Dec.{T}
use lib.Ieee.{Float, nan, inf, fin, binary64, of_bits, div, is_nan, nan_bits}
use lib.Ieee.Bits.{nan_bits_is, nan_bits_above}
use borrow.Author.Tests.{lt-ltb, le-ltb}

is_nan_lem : (x : Float) → is_nan x ≡ true → x ≡ nan
unfolding is_nan
is_nan_lem nan e = refl
is_nan_lem (inf s) e = absurd (false≢true e)
is_nan_lem (fin s m k) e = absurd (false≢true e)

no_number : nan ≡ div binary64 (of_bits binary64 0) (of_bits binary64 0)
unfolding div of_bits
no_number = refl

-- above an infinity's pattern, with the sign's bit dropped, stand those of a NaN
pub nan_above : (n : ℕ) → 0x7ff0_0000_0000_0000 < n % 0x8000_0000_0000_0000 → div binary64 (of_bits binary64 0) (of_bits binary64 0) ≡ of_bits binary64 n
nan_above n h =
    sym (is_nan_lem (of_bits binary64 n) (sym (nan_bits_is binary64 n) ∙ (nan_bits_above binary64 n ∙ lt-ltb 0x7ff0_0000_0000_0000 (n % 0x8000_0000_0000_0000) h)) ∙ no_number)

pub number_below : (n : ℕ) → n % 0x8000_0000_0000_0000 ≤ 0x7ff0_0000_0000_0000 → T (not (nan_bits binary64 n))
number_below n h =
    subst (λ (b : Bool). T (not b)) (sym (nan_bits_above binary64 n ∙ le-ltb 0x7ff0_0000_0000_0000 (n % 0x8000_0000_0000_0000) h)) tt
