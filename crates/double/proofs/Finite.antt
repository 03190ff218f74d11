-- A result that is a number has operands that are numbers: a NaN and an infinity go on through sums, products and quotients, and a division by zero
-- makes one. Assumes nothing.
use mathlib.Core.Path.{◌≡◌, refl, sym, ◌∙◌}
use mathlib.Core.Bool.{Bool, true, false, cond, beq, false≢true}
use Prim.Native.Nat.{zero, suc, ◌*◌}
use native.Mathlib.Nat.{zero-lt-suc, mul-pos, zero-mul}
use native.Mathlib.Omega.{arith}
use lib.Dec.{eqb}
use borrow.Author.Tests.{ne_eqb}
use lib.Ieee.{Float, nan, inf, fin, binary64, up, down, unlike, of_bits, add, mul, div, eq}
use lib.Ieee.Fits.{up_pos}
use Rattle.double.specs.Double.{nought, finite}

-- whichever of two is taken, where neither is a number
neither : {A : Type 0} (b : Bool) (x y : Float) → finite x ≡ false → finite y ≡ false → finite (cond b x y) ≡ true → A
neither true x y p q h = absurd (false≢true (sym p ∙ h))
neither false x y p q h = absurd (false≢true (sym q ∙ h))

pub add_finite : (x y : Float) → finite (add binary64 x y) ≡ true → (finite x ≡ true) × (finite y ≡ true)
unfolding add
add_finite nan y h = absurd (false≢true h)
add_finite (inf s) nan h = absurd (false≢true h)
add_finite (inf s) (inf t) h = neither (beq s t) (inf s) nan refl refl h
add_finite (inf s) (fin t n d) h = absurd (false≢true h)
add_finite (fin s m e) nan h = absurd (false≢true h)
add_finite (fin s m e) (inf t) h = absurd (false≢true h)
add_finite (fin s m e) (fin t n d) h = (refl, refl)

pub mul_finite : (x y : Float) → finite (mul binary64 x y) ≡ true → (finite x ≡ true) × (finite y ≡ true)
unfolding mul
mul_finite nan y h = absurd (false≢true h)
mul_finite (inf s) nan h = absurd (false≢true h)
mul_finite (inf s) (inf t) h = absurd (false≢true h)
mul_finite (inf s) (fin t n d) h = neither (eqb n 0) nan (inf (unlike s t)) refl refl h
mul_finite (fin s m e) nan h = absurd (false≢true h)
mul_finite (fin s m e) (inf t) h = neither (eqb m 0) nan (inf (unlike s t)) refl refl h
mul_finite (fin s m e) (fin t n d) h = (refl, refl)

pub div_finite : (x y : Float) → finite (div binary64 x y) ≡ true → finite x ≡ true
unfolding div
div_finite nan y h = h
div_finite (inf s) nan h = h
div_finite (inf s) (inf t) h = h
div_finite (inf s) (fin t n d) h = h
div_finite (fin s m e) y h = refl

pub div_nonzero : (x y : Float) → finite (div binary64 x y) ≡ true → eq y nought ≡ false
unfolding div eq of_bits
div_nonzero nan y h = absurd (false≢true h)
div_nonzero (inf s) nan h = absurd (false≢true h)
div_nonzero (inf s) (inf t) h = absurd (false≢true h)
div_nonzero (inf s) (fin t n d) h = absurd (false≢true h)
div_nonzero (fin s m e) nan h = refl
div_nonzero (fin s m e) (inf t) h = refl
div_nonzero (fin s m e) (fin t zero d) h = neither (eqb m 0) nan (inf (unlike s t)) refl refl h
div_nonzero (fin s m e) (fin t (suc n) d) h =
    rw (ne_eqb (suc n * up d * 1) (0 * down d) (λ z. omega (arith, zero-mul (down d), mul-pos (zero-lt-suc n) (up_pos d))))
