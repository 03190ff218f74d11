-- Three finite numbers whose rounded squares sum to less than k · k are at most k in size. Assumes nothing.
use mathlib.Core.Path.{◌≡◌, refl, sym, ap, ◌∙◌}
use mathlib.Core.Bool.{Bool, true, false, not, true≢false, false≢true}
use Prim.Native.Nat.{ℕ, ◌+◌, ◌*◌, ◌^◌, ◌≤◌, ◌<◌, zero-le}
use native.Mathlib.Nat.{le_trans, le_of_eq, le_of_lt, lt_of_lt_of_le, lt_of_le_of_lt, lt_of_mul-lt-mul_right, mul_right_comm, mul-one, zero-mul, lt_irrefl}
use native.Mathlib.Omega.{arith}
use lib.Dec.{T, leb, leb→le, nleb→lt, ltb→lt, lit<, lit≤}
use lib.Ieee.{Float, nan, inf, fin, binary64, of_bits, up, down, add, mul, lt, le}
use lib.Ieee.Fits.{down_pos}
use lib.Ieee.Exact.{HasValue}
use lib.Ieee.Positive.{den}
use Rattle.double.specs.Double.{finite, size_of, mul_add_of, sphere_high}
use Rattle.double.specs.Sizes.{Under}
use Rattle.double.proofs.Sizes.{le_of_test}
use Rattle.double.proofs.Over.{exact_1, Over, add_over, square_over}
use Rattle.double.proofs.Nonnegative.{add_plus, square_plus}
use Rattle.double.proofs.Tests.{holds}

-- a square is at least 0
square_low : (x : Float) → finite x ≡ true → Over 1 0 (mul binary64 x x)
square_low x t = square_over 1 (lit< tt) exact_1 1 0 x refl t (le_trans (le_of_eq (zero-mul (den x))) zero-le) (lit< tt)

-- what is at least 4 is not at most 1 + 2^-40
above_sphere : (x : Float) → Over 1 4 x → T (le x sphere_high) → ⊥
unfolding le of_bits
above_sphere nan p q = p
above_sphere (inf true) p q = p
above_sphere (inf false) p q = q
above_sphere (fin true m e) p q = p
above_sphere (fin false m e) p q = lt_irrefl 0 (omega (arith, le_of_test (m * up e * 2 ^ 40) ((2 ^ 40 + 1) * 1 * down e) true q, down_pos e))

-- what is at least n is not below a number whose value is n
not_below : (n : ℕ) (x y : Float) → HasValue y false n 1 → Over 1 n x → T (lt x y) → ⊥
unfolding lt
not_below n x nan v p q = v
not_below n x (inf s) v p q = v
not_below n x (fin true k d) v p q = true≢false v.0
not_below n nan (fin false k d) v p q = p
not_below n (inf true) (fin false k d) v p q = p
not_below n (inf false) (fin false k d) v p q = q
not_below n (fin true m e) (fin false k d) v p q = p
not_below n (fin false m e) (fin false k d) v p q =
    let whole : k * up d ≡ n * down d = sym (mul-one (k * up d)) ∙ v.1 in
    let l : m * up e * down d < n * down e * down d =
    lt_of_lt_of_le (ltb→lt _ _ q) (le_of_eq (ap (λ (z : ℕ). z * down e) whole ∙ mul_right_comm n (down d) (down e))) in
    lt_irrefl (n * down e) (lt_of_le_of_lt (le_trans p (le_of_eq (mul-one (m * up e)))) (lt_of_mul-lt-mul_right (down d) l))

module _ (x y z : Float) where
  abbrev square : Float
  square = mul_add_of x x (mul_add_of y y (mul binary64 z z))

  module _ (k : ℕ) (K : k * k < 2 ^ 53) (low : Over 1 (k * k) square → ⊥) where
    -- a part over k in size would make the sum k · k or more
    part : (w : Float) → finite w ≡ true → (Over 1 (k * k) (mul binary64 w w) → Over 1 (k * k) square) → Under k w
    part nan t f = absurd (false≢true t)
    part (inf s) t f = absurd (false≢true t)
    part (fin s m e) t f = go (leb (m * up e) (k * down e)) (leb→le (m * up e) (k * down e)) (nleb→lt (m * up e) (k * down e))
      where
        go : (b : Bool) → (T b → m * up e ≤ k * down e) → (T (not b) → k * down e < m * up e) → Under k (fin s m e)
        go true u v = record { number = refl; size = u tt }
        go false u v = absurd (low (f (square_over 1 (lit< tt) exact_1 1 k (fin s m e) refl t (le_trans (le_of_lt (v tt)) (le_of_eq (sym (mul-one (m * up e))))) K)))

    parts_under : finite x ≡ true → finite y ≡ true → finite z ≡ true → Under k x × Under k y × Under k z
    unfolding mul_add_of
    parts_under p q r =
        let xx = mul binary64 x x in
        let yy = mul binary64 y y in
        let zz = mul binary64 z z in
        let n = k * k in
        let plus : (a b k : ℕ) (x y : Float) → Over 1 a x → Over 1 b y → k ≤ a + b → k < 2 ^ 53 → Over 1 k (add binary64 x y) = add_over 1 (lit< tt) exact_1 in (
          part x p (λ l. plus n 0 n xx (add binary64 yy zz) l (plus 0 0 0 yy zz (square_low y q) (square_low z r) (lit≤ tt) (lit< tt)) (omega arith) K),
          part y q (λ l. plus 0 n n xx (add binary64 yy zz) (square_low x p) (plus n 0 n yy zz l (square_low z r) (omega arith) K) (omega arith) K),
          part z r (λ l. plus 0 n n xx (add binary64 yy zz) (square_low x p) (plus 0 n n yy zz (square_low y q) l (omega arith) K) (omega arith) K),
        )

  -- The parts of a vector that passes the sphere test are at most 2 in size.
  pub sphere_under : finite x ≡ true → finite y ≡ true → finite z ≡ true → le square sphere_high ≡ true → Under 2 x × Under 2 y × Under 2 z
  sphere_under p q r h = parts_under 2 (lit< tt) (λ o. above_sphere square o (holds h)) p q r

  -- Those of a vector whose squares sum to less than k · k are at most k in size.
  pub below_under : (k : ℕ) (b : Float) → k * k < 2 ^ 53 → HasValue b false (k * k) 1 → finite x ≡ true → finite y ≡ true → finite z ≡ true → lt square b ≡ true → Under k x × Under k y × Under k z
  below_under k b K v p q r h = parts_under k K (λ o. not_below (k * k) square b v o (holds h)) p q r

  -- A sum that is below a number is a number: it is its own size, so no infinity below zero.
  pub below_finite : (b : Float) → finite b ≡ true → lt square b ≡ true → finite square ≡ true
  unfolding mul_add_of lt
  below_finite b f h = go square (add_plus _ _ (square_plus x) (add_plus _ _ (square_plus y) (square_plus z))) b f h
    where
      go : (d : Float) → size_of d ≡ d → (y : Float) → finite y ≡ true → lt d y ≡ true → finite d ≡ true
      go nan p y f e = absurd (false≢true e)
      go (inf true) p y f e = absurd (false≢true (cc))
      go (inf false) p nan f e = absurd (false≢true f)
      go (inf false) p (inf s) f e = absurd (false≢true f)
      go (inf false) p (fin s k d) f e = absurd (false≢true e)
      go (fin s m e') p y f e = refl
