-- What a test of a double's size says in whole numbers, and that a test may be written either way round. Assumes nothing.
use mathlib.Core.Path.{◌≡◌, refl, sym, ap, ◌∙◌, subst}
use mathlib.Core.Bool.{Bool, true, false, not, ◌&&◌, ◌||◌, true≢false, false≢true, and-false}
use Prim.Native.Nat.{ℕ, zero, suc, ◌+◌, ◌*◌, ◌^◌, ◌≤◌, ◌<◌}
use native.Mathlib.Nat.{le_trans, le_of_eq, le_antisymm, lt_irrefl, mul_assoc, mul-le-mul_left, add_comm}
use native.Mathlib.Omega.{arith}
use borrow.Author.Tests.{lt-ltb}
use lib.Dec.{T, T_not, ltb, eqb, ltb→lt, nltb→le, eqb→eq, eqb_refl, eqb-suc-zero, eqb-zero-suc}
use lib.IntN.{ℤ}
use lib.Ieee.{Float, nan, inf, fin, binary64, of_bits, up, down, div, lt, le, eq}
use lib.Ieee.Fits.{down_pos}
use lib.Ieee.Exact.{HasValue}
use lib.Ieee.Positive.{num, den}
use Rattle.double.specs.Double.{finite, size_of, half, three, limit}
use Rattle.double.specs.Sizes.{Under}
use Rattle.double.proofs.Sizes.{cross, quotient_under}

pub holds : {b : Bool} → b ≡ true → T b
holds e = subst T (sym e) tt

pub fails : {b : Bool} → b ≡ false → T (not b)
fails e = subst (λ (b : Bool). T (not b)) (sym e) tt

-- ---- a size against a number whose value is n

-- A size below a number is at most that number.
pub lt_under : (n : ℕ) (x y : Float) → HasValue y false n 1 → lt (size_of x) y ≡ true → Under n x
unfolding lt
lt_under n nan y v h = absurd (false≢true h)
lt_under n (inf s) nan v h = absurd v
lt_under n (inf s) (inf t) v h = absurd v
lt_under n (inf s) (fin t k d) v h = absurd (false≢true h)
lt_under n (fin s m e) nan v h = absurd v
lt_under n (fin s m e) (inf t) v h = absurd v
lt_under n (fin s m e) (fin true k d) v h = absurd (true≢false v.0)
lt_under n (fin s m e) (fin false k d) v h =
    let l : m * up e * down d < k * up d * down e = ltb→lt _ _ (holds h) in
    record { number = refl; size = cross (m * up e) (k * up d) n (down e) (down d) (down_pos d) (omega arith) v.1 }

-- A finite number whose size is not above a number is at most that number.
pub not_above_under : (n : ℕ) (x y : Float) → HasValue y false n 1 → finite x ≡ true → lt y (size_of x) ≡ false → Under n x
unfolding lt
not_above_under n nan y v f h = absurd (false≢true f)
not_above_under n (inf s) y v f h = absurd (false≢true f)
not_above_under n (fin s m e) nan v f h = absurd v
not_above_under n (fin s m e) (inf t) v f h = absurd v
not_above_under n (fin s m e) (fin true k d) v f h = absurd (true≢false v.0)
not_above_under n (fin s m e) (fin false k d) v f h =
    record { number = refl; size = cross (m * up e) (k * up d) n (down e) (down d) (down_pos d) (nltb→le _ _ (fails h)) v.1 }

pub three_value : HasValue three false 3 1
unfolding of_bits
three_value = (refl, refl)

pub limit_value : HasValue limit false (2 ^ 25) 1
unfolding of_bits
limit_value = (refl, refl)

-- ---- a divisor that is not below one half

pub record Reaches (n : ℕ) (y : Float) : Type 0 where
  pub some : 0 < num y
  pub least : den y ≤ n * num y

-- A finite number that is not below one half is above zero, and its size is at least one half.
pub not_below_half : (y : Float) → finite y ≡ true → lt y half ≡ false → Reaches 2 y
unfolding lt of_bits
not_below_half nan f h = absurd (false≢true f)
not_below_half (inf s) f h = absurd (false≢true f)
not_below_half (fin true m e) f h =
    let l : 1 * 1 * down e ≤ 0 = none (m * up e * 2) (1 * 1 * down e) (nltb→le 0 (m * up e * 2 + 1 * 1 * down e) (fails h)) in
    absurd (lt_irrefl 0 (omega (arith, down_pos e)))
  where
    none : (a b : ℕ) → a + b ≤ 0 → b ≤ 0
    none a b h = omega arith
not_below_half (fin false m e) f h =
    let l : 1 * 1 * down e ≤ m * up e * 2 = nltb→le _ _ (fails h) in
    record { some = omega (arith, down_pos e); least = omega arith }

-- So a quotient by it is at most twice as large as its numerator.
pub over_half_under : (a : ℕ) (x y : Float) → Under a x → finite y ≡ true → lt y half ≡ false → a * 2 ≤ 2 ^ 53 → Under (a * 2) (div binary64 x y)
over_half_under a x y p f h N =
    let r = not_below_half y f h in
    quotient_under a (a * 2) x y p f r.some (le_trans (mul-le-mul_left a r.least) (le_of_eq (sym (mul_assoc a 2 (num y))))) N

-- ---- of two finite numbers one is below the other exactly where the other is not at most the one

module _ (a b : ℕ) where
  order : (x y z : Bool) → (T x → a < b) → (T (not x) → b ≤ a) → (T y → b < a) → (T (not y) → a ≤ b) → (T z → b ≡ a) → (T (not z) → b ≡ a → ⊥)
      → x ≡ not (y || (z && true))
  order true true z x x' y y' e e' = absurd (lt_irrefl a (omega (arith, x tt, y tt)))
  order true false true x x' y y' e e' = absurd (lt_irrefl a (omega (arith, x tt, e tt)))
  order true false false x x' y y' e e' = refl
  order false true z x x' y y' e e' = refl
  order false false true x x' y y' e e' = refl
  order false false false x x' y y' e e' = absurd (e' tt (le_antisymm (x' tt) (y' tt)))

  unequal : T (not (eqb a b)) → a ≡ b → ⊥
  unequal t q = T_not (eqb a b) t (subst (λ (k : ℕ). T (eqb a k)) q (eqb_refl a))

zero_xor : (a b : ℕ) → ltb 0 (a + b) ≡ not (eqb b a && eqb b 0)
zero_xor zero zero = refl
zero_xor zero (suc b) = rw (lt-ltb 0 (zero + suc b) (omega arith), eqb-suc-zero)
zero_xor (suc a) zero = rw (lt-ltb 0 (suc a + zero) (omega arith), eqb-zero-suc)
zero_xor (suc a) (suc b) = rw (lt-ltb 0 (suc a + suc b) (omega arith), eqb-suc-zero, and-false)

or_not : (x : Bool) → (not x || x) ≡ true
or_not true = refl
or_not false = refl

pub lt_not_le : (x y : Float) → finite x ≡ true → finite y ≡ true → lt x y ≡ not (le y x)
unfolding le
lt_not_le nan y p q = absurd (false≢true p)
lt_not_le (inf s) y p q = absurd (false≢true p)
lt_not_le (fin s m e) nan p q = absurd (false≢true q)
lt_not_le (fin s m e) (inf t) p q = absurd (false≢true q)
lt_not_le (fin false m e) (fin false n d) p q =
    let a = m * up e * down d in
    let b = n * up d * down e in
    order a b (ltb a b) (ltb b a) (eqb b a) (ltb→lt a b) (nltb→le a b) (ltb→lt b a) (nltb→le b a) (eqb→eq b a) (unequal b a)
lt_not_le (fin false m e) (fin true n d) p q =
    let a = m * up e * down d in
    let b = n * up d * down e in
    sym (ap not (ap (λ (x : Bool). x || (eqb b a && eqb b 0)) (ap (ltb 0) (add_comm b a) ∙ zero_xor a b) ∙ or_not (eqb b a && eqb b 0)))
lt_not_le (fin true m e) (fin false n d) p q = zero_xor (m * up e * down d) (n * up d * down e)
lt_not_le (fin true m e) (fin true n d) p q =
    let a = m * up e * down d in
    let b = n * up d * down e in
    order b a (ltb b a) (ltb a b) (eqb b a) (ltb→lt b a) (nltb→le b a) (ltb→lt a b) (nltb→le a b) (λ t. sym (eqb→eq b a t)) (λ t r. unequal b a t (sym r))

-- ---- a size against a number from 0 up, by two comparisons without the size

le_not_lt : (x y : Float) → finite x ≡ true → finite y ≡ true → le y x ≡ not (lt x y)
le_not_lt x y p q = sym (ap not (lt_not_le x y p q) ∙ twice (le y x))
  where
    twice : (b : Bool) → not (not b) ≡ b
    twice true = refl
    twice false = refl

module _ (k : ℕ) (d : ℤ) where
  abbrev top : Float
  top = fin false k d

  abbrev bottom : Float
  bottom = fin true k d

  -- between -y and y the size is below y
  pub between_lt : (x : Float) → lt x top ≡ true → lt bottom x ≡ true → (finite x ≡ true) × (lt (size_of x) top ≡ true)
  unfolding lt
  between_lt nan p q = absurd (false≢true p)
  between_lt (inf true) p q = absurd (false≢true q)
  between_lt (inf false) p q = absurd (false≢true p)
  between_lt (fin true m e) p q = (refl, q)
  between_lt (fin false m e) p q = (refl, p)

  mirror : (m : ℕ) (e : ℤ) → le (fin false m e) top ≡ le bottom (fin true m e)
  unfolding lt
  mirror m e = le_not_lt top (fin false m e) refl refl ∙ sym (le_not_lt (fin true m e) bottom refl refl)

  -- from -y to y the size is at most y
  pub between_le : (x : Float) → le x top ≡ true → le bottom x ≡ true → le (size_of x) top ≡ true
  unfolding le lt eq
  between_le nan p q = absurd (false≢true p)
  between_le (inf true) p q = absurd (false≢true q)
  between_le (inf false) p q = absurd (false≢true p)
  between_le (fin true m e) p q = mirror m e ∙ q
  between_le (fin false m e) p q = p

  minus_below : (m : ℕ) (e : ℤ) → le (fin true m e) top ≡ true
  unfolding lt
  minus_below m e = le_not_lt top (fin true m e) refl refl

  plus_above : (m : ℕ) (e : ℤ) → le bottom (fin false m e) ≡ true
  unfolding lt
  plus_above m e = le_not_lt (fin false m e) bottom refl refl

  -- and the other way round, of a number
  pub le_between : (x : Float) → finite x ≡ true → le (size_of x) top ≡ true → (le x top ≡ true) × (le bottom x ≡ true)
  le_between nan f h = absurd (false≢true f)
  le_between (inf s) f h = absurd (false≢true f)
  le_between (fin true m e) f h = (minus_below m e, sym (mirror m e) ∙ h)
  le_between (fin false m e) f h = (h, plus_above m e)
