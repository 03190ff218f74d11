-- Sizes in units of 1 / L, where a double can be any number of units below 2^53: a finer calculus than that of whole numbers. Assumes nothing.
use mathlib.Core.Path.{◌≡◌, refl, sym, ap, ◌∙◌}
use mathlib.Core.Bool.{Bool, true, false, cond, beq, ◌&&◌, true≢false, false≢true}
use Prim.Native.Nat.{ℕ, zero, suc, ◌+◌, ◌-◌, ◌*◌, ◌^◌, ◌≤◌, ◌<◌}
use native.Mathlib.Nat.{le_trans, le_of_eq, lt_irrefl, mul_comm, mul_assoc, mul_right_comm, mul-le-mul, mul-le-mul_left, mul-le-mul_right, mul-mul-mul_comm, mul-pos, add-mul, zero-lt-suc, le_of_mul-le-mul_right}
use native.Mathlib.Omega.{arith}
use lib.Dec.{T, ltb, eqb-suc-zero}
use lib.Ieee.{Float, nan, inf, fin, binary64, up, down, unlike, round, sum, add, sub, neg, mul, div, le}
use lib.Ieee.Fits.{down_pos, up_pos}
use lib.Ieee.Exact.{HasValue}
use lib.Ieee.Order.{round_mono}
use lib.Ieee.Positive.{num, den, through}
use Rattle.double.specs.Double.{finite, size_of}
use Rattle.double.specs.Sizes.{Under}
use Rattle.double.proofs.Sizes.{round_size, le_of_test}
use Rattle.double.proofs.Over.{Exact}

-- x is finite and at most n / L in size
pub record Within (L n : ℕ) (x : Float) : Type 0 where
  pub number : finite x ≡ true
  pub size : num x * L ≤ n * den x

-- whole numbers and units
pub within_under : (L n : ℕ) (x : Float) → 0 < L → Within L (n * L) x → Under n x
within_under L n x some p = record { number = p.number; size = le_of_mul-le-mul_right (le_trans p.size (le_of_eq (mul_right_comm n L (den x)))) some }

pub within_le : (L a b : ℕ) (x : Float) → a ≤ b → Within L a x → Within L b x
within_le L a b x h p = record { number = p.number; size = le_trans p.size (mul-le-mul_right (den x) h) }

le_within : (L n : ℕ) (x y : Float) → HasValue y false n L → T (le (size_of x) y) → Within L n x
unfolding le
le_within L n nan y v h = absurd h
le_within L n (inf s) nan v h = absurd v
le_within L n (inf s) (inf t) v h = absurd v
le_within L n (inf s) (fin t k d) v h = absurd h
le_within L n (fin s m e) nan v h = absurd v
le_within L n (fin s m e) (inf t) v h = absurd v
le_within L n (fin s m e) (fin true k d) v h = absurd (true≢false v.0)
le_within L n (fin s m e) (fin false k d) v h =
    record { number = refl; size = through (m * up e) (k * up d) n (down e) (down d) L (down_pos d) (le_of_test (m * up e * down d) (k * up d * down e) true h) (le_of_eq v.1) }

negated : (L b : ℕ) (y : Float) → Within L b y → Within L b (neg y)
unfolding neg
negated L b nan q = q
negated L b (inf t) q = absurd (false≢true q.number)
negated L b (fin t n d) q = record { number = refl; size = q.size }

either : {A : Type 0} (P : A → Type 0) (b : Bool) {x y : A} → P x → P y → P (cond b x y)
either P true p q = p
either P false p q = q

module _ (L : ℕ) (some : 0 < L) (exact : Exact L) where
  round_within : (s : Bool) (a c n : ℕ) → 0 < c → n < 2 ^ 53 → a * L ≤ n * c → Within L n (round binary64 s a c)
  round_within s a c n C N h =
      le_within L n (round binary64 s a c) (round binary64 false n L) (exact n N) (rw (round_size s a c) (round_mono binary64 a c n L C some h))

  -- a product whose size is at most n units
  pub mul_at : (n : ℕ) (x y : Float) → finite x ≡ true → finite y ≡ true → num x * num y * L ≤ n * (den x * den y) → n < 2 ^ 53 → Within L n (mul binary64 x y)
  unfolding mul
  mul_at n nan y p q h N = absurd (false≢true p)
  mul_at n (inf s) y p q h N = absurd (false≢true p)
  mul_at n (fin s m e) nan p q h N = absurd (false≢true q)
  mul_at n (fin s m e) (inf t) p q h N = absurd (false≢true q)
  mul_at n (fin s m e) (fin t k d) p q h N =
      round_within (unlike s t) (m * up e * (k * up d)) (down e * down d) n (mul-pos (down_pos e) (down_pos d)) N h

  -- a number of at most a units times one of at most b
  pub mul_within : (a b : ℕ) (x y : Float) → Within L a x → Under b y → a * b < 2 ^ 53 → Within L (a * b) (mul binary64 x y)
  mul_within a b x y p q N =
      mul_at (a * b) x y p.number q.number
      (le_trans (le_of_eq (mul_right_comm (num x) (num y) L)) (le_trans (mul-le-mul p.size q.size) (le_of_eq (mul-mul-mul_comm a (den x) b (den y))))) N

  -- a constant times a number of at most a units
  pub scaled_within : (a n : ℕ) (k x : Float) → finite k ≡ true → Within L a x → num k * a ≤ n * den k → n < 2 ^ 53 → Within L n (mul binary64 k x)
  scaled_within a n k x f p h N =
      mul_at n k x f p.number
      (le_trans (le_of_eq (mul_assoc (num k) (num x) L))
      (le_trans (mul-le-mul_left (num k) p.size)
      (le_trans (le_of_eq (sym (mul_assoc (num k) a (den x))))
      (le_trans (mul-le-mul_right (den x) h) (le_of_eq (mul_assoc n (den k) (den x))))))) N

  sum_within : (s t : Bool) (m n c a b : ℕ) → 0 < c → m * L ≤ a * c → n * L ≤ b * c → a + b < 2 ^ 53 → Within L (a + b) (sum binary64 s m t n c)
  unfolding sum
  sum_within s t m n c a b C p q h =
      let top : (m + n) * L ≤ (a + b) * c = rw (add-mul m n L, add-mul a b c) (omega arith) in
      let at : (r : Bool) (k : ℕ) → k ≤ m + n → Within L (a + b) (round binary64 r k c) = λ r k l. round_within r k c (a + b) C h (le_trans (mul-le-mul_right L l) top) in
      either (Within L (a + b)) (beq s t) (at s (m + n) (omega arith))
      (either (Within L (a + b)) (ltb m n) (at t (n - m) (omega arith)) (at (s && ltb n m) (m - n) (omega arith)))

  pub add_within : (a b : ℕ) (x y : Float) → Within L a x → Within L b y → a + b < 2 ^ 53 → Within L (a + b) (add binary64 x y)
  unfolding add
  add_within a b nan y p q h = absurd (false≢true p.number)
  add_within a b (inf s) y p q h = absurd (false≢true p.number)
  add_within a b (fin s m e) nan p q h = absurd (false≢true q.number)
  add_within a b (fin s m e) (inf t) p q h = absurd (false≢true q.number)
  add_within a b (fin s m e) (fin t n d) p q h =
      sum_within s t (m * up e * down d) (n * up d * down e) (down e * down d) a b (mul-pos (down_pos e) (down_pos d))
      (le_trans (le_of_eq (mul_right_comm (m * up e) (down d) L)) (le_trans (mul-le-mul_right (down d) p.size) (le_of_eq (mul_assoc a (down e) (down d)))))
      (le_trans (le_of_eq (mul_right_comm (n * up d) (down e) L))
      (le_trans (mul-le-mul_right (down e) q.size) (le_of_eq (mul_assoc b (down d) (down e) ∙ ap (λ (z : ℕ). b * z) (mul_comm (down d) (down e)))))) h

  pub sub_within : (a b : ℕ) (x y : Float) → Within L a x → Within L b y → a + b < 2 ^ 53 → Within L (a + b) (sub binary64 x y)
  unfolding sub
  sub_within a b x y p q h = add_within a b x (neg y) p (negated L b y q) h

  -- a quotient by a number that is at least one half
  pub halves_within : (a : ℕ) (x y : Float) → Within L a x → finite y ≡ true → 0 < num y → den y ≤ 2 * num y → a * 2 < 2 ^ 53 → Within L (a * 2) (div binary64 x y)
  unfolding div
  halves_within a nan y p q o h N = absurd (false≢true p.number)
  halves_within a (inf s) y p q o h N = absurd (false≢true p.number)
  halves_within a (fin s m e) nan p q o h N = absurd (false≢true q)
  halves_within a (fin s m e) (inf t) p q o h N = absurd (false≢true q)
  halves_within a (fin s m e) (fin t zero d) p q o h N = absurd (lt_irrefl 0 (omega arith))
  halves_within a (fin s m e) (fin t (suc n) d) p q o h N =
      rw eqb-suc-zero
      (round_within (unlike s t) (m * up e * down d) (suc n * up d * down e) (a * 2) (mul-pos (mul-pos (zero-lt-suc n) (up_pos d)) (down_pos e)) N
      (le_trans (le_of_eq (mul_right_comm (m * up e) (down d) L))
      (le_trans (mul-le-mul p.size h)
      (le_of_eq (mul-mul-mul_comm a (down e) 2 (suc n * up d) ∙ ap (λ (z : ℕ). a * 2 * z) (mul_comm (down e) (suc n * up d)))))))
