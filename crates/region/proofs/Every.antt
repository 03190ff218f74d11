-- A test of every number below another, and of some. Assumes nothing.
use mathlib.Core.Path.{◌≡◌, refl, sym, ap, ◌∙◌}
use mathlib.Core.Bool.{Bool, true, false, ◌&&◌, false≢true, or-true, and-false, and-true, and_assoc}
use mathlib.Core.Logic.{⊎_elim}
use Prim.Native.Nat.{ℕ, zero, suc, ◌+◌, ◌<◌}
use native.Mathlib.Nat.{add-zero, eq-or-lt_of_le, le_of_suc-le-suc, not-suc-le-zero}
use native.Mathlib.Numerals.{add-one}
use native.Mathlib.Omega.{arith}
use Rattle.std.specs.List.{list_all, range_with_len}
use Rattle.reply.proofs.Entries.{both}
use Rattle.region.specs.Places.{all_to, any_to}

-- two tests that hold in the same cases
pub alike : (a b : Bool) → (a ≡ true → b ≡ true) → (b ≡ true → a ≡ true) → a ≡ b
alike true b f g = sym (f refl)
alike false true f g = g refl
alike false false f g = refl

module _ (test : ℕ → Bool) where
  pub all_at : (n k : ℕ) → all_to test n ≡ true → k < n → test k ≡ true
  unfolding all_to
  all_at zero k e h = absurd (not-suc-le-zero h)
  all_at (suc n) k e h =
      let b = both (all_to test n) (test n) e in
      ⊎_elim (λ q. ap test q ∙ b.1) (λ l. all_at n k b.0 l) (eq-or-lt_of_le (le_of_suc-le-suc h))

  pub all_more : (n : ℕ) → all_to test n ≡ true → test n ≡ true → all_to test (n + 1) ≡ true
  unfolding all_to
  all_more n e h = rw (add-one, e, h)

  pub all_fails : (n k : ℕ) → k < n → test k ≡ false → all_to test n ≡ false
  unfolding all_to
  all_fails zero k h e = absurd (not-suc-le-zero h)
  all_fails (suc n) k h e =
      ⊎_elim (λ q. let t : test n ≡ false = sym (ap test q) ∙ e in rw t (and-false (all_to test n))) (λ l. rw (all_fails n k l e)) (eq-or-lt_of_le (le_of_suc-le-suc h))

  -- where the test holds at every number, it holds of all
  pub all_from : (n : ℕ) → ((k : ℕ) → k < n → test k ≡ true) → all_to test n ≡ true
  unfolding all_to
  all_from zero h = refl
  all_from (suc n) h = rw (all_from n (λ k l. h k (omega arith)), h n (omega arith))

  pub any_at : (n k : ℕ) → k < n → test k ≡ true → any_to test n ≡ true
  unfolding any_to
  any_at zero k h e = absurd (not-suc-le-zero h)
  any_at (suc n) k h e =
      ⊎_elim (λ q. let t : test n ≡ true = sym (ap test q) ∙ e in rw t (or-true (any_to test n))) (λ l. rw (any_at n k l e)) (eq-or-lt_of_le (le_of_suc-le-suc h))

  pub record Some (n : ℕ) : Type 0 where
    pub which : ℕ
    pub below : which < n
    pub holds : test which ≡ true

  pub any_found : (n : ℕ) → any_to test n ≡ true → Some n
  unfolding any_to
  any_found zero e = absurd (false≢true e)
  any_found (suc n) e = go (any_to test n) refl (any_found n)
    where
      go : (b : Bool) → any_to test n ≡ b → (any_to test n ≡ true → Some n) → Some (suc n)
      go true q ih = let s = ih q in record { which = s.which; below = omega (arith, s.below); holds = s.holds }
      go false q ih = record { which = n; below = omega arith; holds = rw q at e }

-- tests that agree below n agree of all
pub all_same : (f g : ℕ → Bool) (n : ℕ) → ((k : ℕ) → k < n → f k ≡ g k) → all_to f n ≡ all_to g n
unfolding all_to
all_same f g zero h = refl
all_same f g (suc n) h = rw (all_same f g n (λ k l. h k (omega arith)), h n (omega arith))

in_front : (test : ℕ → Bool) (n : ℕ) → all_to test (suc n) ≡ (test 0 && all_to (λ k. test (suc k)) n)
unfolding all_to
in_front test zero = sym (and-true (test 0))
in_front test (suc n) = rw (in_front test n) (and_assoc (test 0) _ _)

-- a range of numbers, gone through from its first one
ranged_from : (test : ℕ → Bool) (a n : ℕ) → list_all test (range_with_len a n) ≡ all_to (λ k. test (a + k)) n
unfolding all_to
ranged_from test a zero = refl
ranged_from test a (suc n) =
    rw (ranged_from test (a + 1) n, in_front (λ k. test (a + k)) n, add-zero a)
    (ap (λ (b : Bool). test a && b) (all_same _ _ n (λ k h. ap test (omega arith))))

pub all_ranged : (test : ℕ → Bool) (n : ℕ) → list_all test (range_with_len 0 n) ≡ all_to test n
all_ranged test n = ranged_from test 0 n ∙ all_same _ _ n (λ k h. ap test (omega arith))
