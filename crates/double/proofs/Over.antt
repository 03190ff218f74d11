-- Bounds from below in units of 1 / L, where a double can be any number of units below 2^53: sums and squares keep them. Assumes nothing.
use mathlib.Core.Path.{◌≡◌, refl, sym, ap, ◌∙◌}
use mathlib.Core.Bool.{Bool, true, false, true≢false, false≢true}
use Prim.Native.Nat.{ℕ, ◌+◌, ◌*◌, ◌^◌, ◌≤◌, ◌<◌}
use native.Mathlib.Nat.{le_trans, le_of_eq, le_of_lt, lt_trans, mul_comm, mul_assoc, mul-le-mul, mul-le-mul_right, mul-mul-mul_comm, mul_right_comm, mul-pos, add-mul}
use native.Mathlib.Omega.{arith}
use lib.Dec.{T, lit<}
use lib.Pow.{pow_pos, pow-lt, shl_lt}
use lib.Ieee.{Float, nan, inf, fin, binary64, up, down, unlike, round, sum, add, mul, le}
use lib.Ieee.Fits.{down_pos}
use lib.Ieee.Exact.{HasValue, round_exact}
use lib.Ieee.Order.{round_mono}
use lib.Ieee.Back.{round_whole}
use lib.Ieee.Positive.{num, den, through}
use Rattle.double.specs.Double.{finite, size_of}
use Rattle.double.proofs.Sizes.{round_size, le_of_test}

-- each number of units below 2^53 is a double
abbrev pub Exact : ℕ → Type 0
Exact L = (n : ℕ) → n < 2 ^ 53 → HasValue (round binary64 false n L) false n L

exact_with : (t j : ℕ) → 2 ^ j * 2 ^ t ≡ 2 ^ 1074 → 53 + j < 2098 → Exact (2 ^ t)
exact_with t j e r n h =
    round_exact binary64 false n (2 ^ t) n j (pow_pos t) h (lt_trans (shl_lt 53 j h) (pow-lt r)) (ap (λ (z : ℕ). n * z) (sym e) ∙ sym (mul_assoc n (2 ^ j) (2 ^ t)))

pub exact_1 : Exact 1
exact_1 n h = round_whole binary64 false n (le_of_lt h)

pub exact_20 : Exact (2 ^ 20)
exact_20 = exact_with 20 1054 refl (lit< tt)

pub exact_40 : Exact (2 ^ 40)
exact_40 = exact_with 40 1034 refl (lit< tt)

-- at least k / L and not negative, an infinity included
abbrev pub Over : ℕ → ℕ → Float → Type 0
Over L k nan = ⊥
Over L k (inf true) = ⊥
Over L k (inf false) = Unit
Over L k (fin true m e) = ⊥
Over L k (fin false m e) = k * down e ≤ m * up e * L

over : (L k : ℕ) (x y : Float) → size_of x ≡ x → HasValue y false k L → T (le y x) → Over L k x
unfolding le
over L k x nan p v t = absurd v
over L k x (inf s) p v t = absurd v
over L k x (fin true n d) p v t = absurd (true≢false v.0)
over L k nan (fin false n d) p v t = t
over L k (inf true) (fin false n d) p v t = t
over L k (inf false) (fin false n d) p v t = tt
over L k (fin true m e) (fin false n d) p v t = absurd (false≢true (cc))
over L k (fin false m e) (fin false n d) p v t =
    through k (n * up d) (m * up e) L (down d) (down e) (down_pos d) (le_of_eq (sym v.1)) (le_of_test (n * up d * down e) (m * up e * down d) true t)

module _ (L : ℕ) (some : 0 < L) (exact : Exact L) where
  round_over : (a c k : ℕ) → 0 < c → k < 2 ^ 53 → k * c ≤ a * L → Over L k (round binary64 false a c)
  round_over a c k C K h =
      over L k (round binary64 false a c) (round binary64 false k L) (round_size false a c) (exact k K) (round_mono binary64 k L a c some C h)

  pub add_over : (a b k : ℕ) (x y : Float) → Over L a x → Over L b y → k ≤ a + b → k < 2 ^ 53 → Over L k (add binary64 x y)
  unfolding add sum
  add_over a b k nan y p q s h = absurd p
  add_over a b k (inf true) y p q s h = absurd p
  add_over a b k (inf false) nan p q s h = absurd q
  add_over a b k (inf false) (inf true) p q s h = absurd q
  add_over a b k (inf false) (inf false) p q s h = tt
  add_over a b k (inf false) (fin true n d) p q s h = absurd q
  add_over a b k (inf false) (fin false n d) p q s h = tt
  add_over a b k (fin true m e) y p q s h = absurd p
  add_over a b k (fin false m e) nan p q s h = absurd q
  add_over a b k (fin false m e) (inf true) p q s h = absurd q
  add_over a b k (fin false m e) (inf false) p q s h = tt
  add_over a b k (fin false m e) (fin true n d) p q s h = absurd q
  add_over a b k (fin false m e) (fin false n d) p q s h =
      let c = down e * down d in
      let l : a * c ≤ m * up e * down d * L = le_trans (le_of_eq (sym (mul_assoc a (down e) (down d)))) (le_trans (mul-le-mul_right (down d) p) (le_of_eq (mul_right_comm (m * up e) L (down d)))) in
      let r : b * c ≤ n * up d * down e * L = le_trans (le_of_eq (ap (λ (z : ℕ). b * z) (mul_comm (down e) (down d)) ∙ sym (mul_assoc b (down d) (down e)))) (le_trans (mul-le-mul_right (down e) q) (le_of_eq (mul_right_comm (n * up d) L (down e)))) in
      round_over (m * up e * down d + n * up d * down e) c k (mul-pos (down_pos e) (down_pos d)) h
      (le_trans (mul-le-mul_right c s) (rw (add-mul a b c, add-mul (m * up e * down d) (n * up d * down e) L) (omega arith)))

  -- the square of a number that is at least k of the units whose square is 1 / L
  pub square_over : (M k : ℕ) (x : Float) → M * M ≡ L → finite x ≡ true → k * den x ≤ num x * M → k * k < 2 ^ 53 → Over L (k * k) (mul binary64 x x)
  unfolding mul
  square_over M k nan w t l h = absurd (false≢true t)
  square_over M k (inf s) w t l h = absurd (false≢true t)
  square_over M k (fin s m e) w t l h =
      sign s
      (round_over (m * up e * (m * up e)) (down e * down e) (k * k) (mul-pos (down_pos e) (down_pos e)) h
      (le_trans (le_of_eq (sym (mul-mul-mul_comm k (down e) k (down e))))
      (le_trans (mul-le-mul l l) (le_of_eq (mul-mul-mul_comm (m * up e) M (m * up e) M ∙ ap (λ (z : ℕ). m * up e * (m * up e) * z) w)))))
    where
      sign : (s : Bool) → Over L (k * k) (round binary64 false (m * up e * (m * up e)) (down e * down e))
          → Over L (k * k) (round binary64 (unlike s s) (m * up e * (m * up e)) (down e * down e))
      sign true p = p
      sign false p = p
