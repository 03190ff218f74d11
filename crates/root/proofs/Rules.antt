-- What the tests of `square_root` say, by the kinds of a double, and the pattern of one that has a root. Assumes nothing.
use mathlib.Core.Path.{◌≡◌, refl, sym, ap, ◌∙◌, subst}
use mathlib.Core.Bool.{Bool, true, false, ◌&&◌, true≢false, false≢true}
use Prim.Native.Nat.{ℕ, zero, suc, ◌+◌, ◌*◌, ◌^◌, ◌<◌}
use native.Mathlib.Nat.{zero-lt-suc, mul-pos, zero-mul}
use native.Mathlib.Omega.{arith}
use lib.IntN.{ℤ}
use lib.Dec.{T}
use borrow.Author.Tests.{lt-ltb, le-ltb, ne_eqb}
use lib.Ieee.{Float, nan, inf, fin, binary64, up, down, fits, to_bits, of_bits, round, eq, lt}
use lib.Ieee.Fits.{up_pos}
use Rattle.reply.proofs.Entries.{both}
use Rattle.double.specs.Double.{nought, finite}
use Rattle.double.specs.Sizes.{units_of}
use Rattle.root.specs.Root.{whole_root, radicand_of, root_of, no_root}
use Rattle.root.specs.AsWorked.{units_of_bits, Positive}
use Rattle.root.proofs.Patterns.{pattern, units_are, bits_pos}

-- ---- a number against zero

no_more : (e : ℤ) → (0 * up e * 1 ≡ 0) × (0 * down e ≡ 0)
no_more e = (ap (λ (k : ℕ). k * 1) (zero-mul (up e)), zero-mul (down e))

some_more : (m : ℕ) (e : ℤ) → 0 < suc m * up e * 1
some_more m e = mul-pos (mul-pos (zero-lt-suc m) (up_pos e)) (zero-lt-suc 0)

-- a zero is no number above zero and none below, and another number is one of the two
zero_eq : (s : Bool) (e : ℤ) → eq (fin s zero e) nought ≡ true
unfolding eq of_bits
zero_eq true e = rw ((no_more e).0, (no_more e).1)
zero_eq false e = rw ((no_more e).0, (no_more e).1)

zero_below : (s : Bool) (e : ℤ) → lt (fin s zero e) nought ≡ false
unfolding lt of_bits
zero_below true e = rw ((no_more e).0, (no_more e).1)
zero_below false e = rw ((no_more e).0, (no_more e).1)

some_eq : (s : Bool) (m : ℕ) (e : ℤ) → eq (fin s (suc m) e) nought ≡ false
unfolding eq of_bits
some_eq s m e = rw ((no_more e).1, ne_eqb (suc m * up e * 1) 0 (λ z. omega (arith, some_more m e)))

minus_below : (m : ℕ) (e : ℤ) → lt (fin true (suc m) e) nought ≡ true
unfolding lt of_bits
minus_below m e = lt-ltb 0 (suc m * up e * 1 + 0 * down e) (omega (arith, some_more m e))

plus_below : (m : ℕ) (e : ℤ) → lt (fin false m e) nought ≡ false
unfolding lt of_bits
plus_below m e = rw (no_more e).1 (le-ltb (m * up e * 1) 0 (omega arith))

zero_above : (e : ℤ) → lt nought (fin false zero e) ≡ false
unfolding lt of_bits
zero_above e = rw ((no_more e).0, (no_more e).1)

plus_above : (m : ℕ) (e : ℤ) → lt nought (fin false (suc m) e) ≡ true
unfolding lt of_bits
plus_above m e = rw (no_more e).1 (lt-ltb _ _ (some_more m e))

-- ---- the three answers

pub zero_root : (x : Float) → eq x nought ≡ true → (no_root x ≡ false) × (root_of x ≡ x)
unfolding no_root root_of
zero_root nan h = absurd (false≢true (unfold eq in h))
zero_root (inf s) h = absurd (false≢true (unfold eq of_bits in h))
zero_root (fin s zero e) h = (zero_below s e, rw h)
zero_root (fin s (suc m) e) h = absurd (false≢true (sym (some_eq s m e) ∙ h))

pub has_root : (x : Float) → (lt nought x && finite x) ≡ true → Positive x × (no_root x ≡ false)
unfolding no_root
has_root nan h = absurd (false≢true (unfold lt of_bits in h))
has_root (inf true) h = absurd (false≢true (unfold lt of_bits in h))
has_root (inf false) h = absurd (false≢true (unfold lt of_bits in h))
has_root (fin true m e) h = absurd (false≢true (unfold lt of_bits in h))
has_root (fin false zero e) h = absurd (false≢true (sym (zero_above e) ∙ (both (lt nought (fin false zero e)) true h).0))
has_root (fin false (suc m) e) h = (record { number = refl; above = plus_above m e }, plus_below (suc m) e)

pub has_none : (x : Float) → eq x nought ≡ false → (lt nought x && finite x) ≡ false → no_root x ≡ true
unfolding no_root
has_none nan z h = refl
has_none (inf s) z h = refl
has_none (fin s zero e) z h = absurd (true≢false (sym (zero_eq s e) ∙ z))
has_none (fin true (suc m) e) z h = minus_below m e
has_none (fin false (suc m) e) z h = absurd (true≢false (sym (ap (λ (b : Bool). b && true) (plus_above m e)) ∙ h))

-- ---- the pattern of a number that has one

-- such a number by its digits
pub record Above (x : Float) : Type 0 where
  pub m : ℕ
  pub e : ℤ
  pub is : x ≡ fin false (suc m) e

pub above : (x : Float) → Positive x → Above x
above nan p = absurd (false≢true p.number)
above (inf s) p = absurd (false≢true p.number)
above (fin true m e) p = absurd (false≢true (unfold lt of_bits in p.above))
above (fin false zero e) p = absurd (false≢true (sym (zero_above e) ∙ p.above))
above (fin false (suc m) e) p = record { m = m; e = e; is = refl }

pub pattern_bounds : (x : Float) → T (fits binary64 x) → Positive x → (0 < to_bits binary64 x) × (to_bits binary64 x < 2047 * 2 ^ 52)
pattern_bounds x f p =
    let a = above x p in
    let g : T (fits binary64 (fin false (suc a.m) a.e)) = subst (λ (y : Float). T (fits binary64 y)) a.is f in
    subst (λ (y : Float). (0 < to_bits binary64 y) × (to_bits binary64 y < 2047 * 2 ^ 52)) (sym a.is)
    (bits_pos (suc a.m) a.e g (zero-lt-suc a.m), (pattern (suc a.m) a.e g).below)

-- its units are its pattern's
pub pattern_units : (x : Float) → T (fits binary64 x) → Positive x → units_of x ≡ units_of_bits (to_bits binary64 x)
pattern_units x f p =
    let a = above x p in
    let g : T (fits binary64 (fin false (suc a.m) a.e)) = subst (λ (z : Float). T (fits binary64 z)) a.is f in
    subst (λ (z : Float). units_of z ≡ units_of_bits (to_bits binary64 z)) (sym a.is) (units_are (suc a.m) a.e g)

-- it is no zero
pub root_is : (x : Float) → Positive x → root_of x ≡ round binary64 false (whole_root (radicand_of x)) (2 ^ 1074)
root_is x p = let a = above x p in not_zero x (ap (λ (z : Float). eq z nought) a.is ∙ some_eq false a.m a.e)
  where
    not_zero : (z : Float) → eq z nought ≡ false → root_of z ≡ round binary64 false (whole_root (radicand_of z)) (2 ^ 1074)
    not_zero z e = unfold root_of in (rw e)

-- the root of its pattern's value is its root
pub root_given : (x y : Float) → T (fits binary64 x) → Positive x → y ≡ round binary64 false (whole_root (units_of_bits (to_bits binary64 x) * 2 ^ 1074)) (2 ^ 1074) → y ≡ root_of x
root_given x y f p h =
    h ∙ (ap (λ (n : ℕ). round binary64 false (whole_root (n * 2 ^ 1074)) (2 ^ 1074)) (sym (pattern_units x f p)) ∙ sym (root_is x p))
