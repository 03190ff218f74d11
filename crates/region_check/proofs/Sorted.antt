-- Records that stand in order rise by one number, their key. Assumes nothing.
use mathlib.Core.Path.{◌≡◌, sym, ◌∙◌}
use mathlib.Core.Bool.{true, false, not}
use mathlib.Core.Logic.{⊎_elim}
use Prim.Native.Nat.{ℕ, zero, suc, ◌-◌, ◌≤◌, ◌<◌}
use native.Mathlib.Nat.{eq-or-lt_of_le, le_of_suc-le-suc, not-suc-le-zero}
use native.Mathlib.Omega.{arith}
use lib.Dec.{eqb}
use borrow.Author.Tests.{not-true, ltb-true, ltb-false, ne_eqb}
use Rattle.reply.proofs.Entries.{neither, both}
use Rattle.coordijk.specs.Coordinates.{not_reduced}
use Rattle.coordijk.proofs.Taking.{passed as taken_passed}
use Rattle.faceijk.specs.declared.Place.{Place}
use Rattle.faceijk.specs.Places.{bad_face, coord_of, Okay}
use Rattle.region.specs.Places.{before}
use Rattle.region.proofs.Every.{all_at, all_same}
use Rattle.region.proofs.Keys.{key_of, Small, small, before_key, key_face}
use Rattle.region_check.specs.Sound.{wrong_place, follows, sound_at, sound_to}

pub right_okay : (p : Place) → wrong_place p ≡ false → Okay p
right_okay p e =
    let n = neither (bad_face p.face) (not_reduced (coord_of p)) e in
    let f = ltb-false 19 p.face n.0 in
    record { on = omega arith; taken = taken_passed (coord_of p) n.1 }

module _ (at : ℕ → Place) (count : ℕ) (sound : sound_to at count ≡ true) where
  pub okay_at : (n : ℕ) → n < count → Okay (at n)
  unfolding follows sound_at
  okay_at n h =
      let s = all_at (sound_at at) count n sound h in
      right_okay (at n) (not-true (wrong_place (at n)) (both (not (wrong_place (at n))) _ s).0)

  pub small_at : (n : ℕ) → n < count → Small (at n)
  small_at n h = small (at n) (okay_at n h)

  next_higher : (n : ℕ) → suc n < count → key_of (at n) < key_of (at (suc n))
  unfolding follows sound_at
  next_higher n h =
      let s = all_at (sound_at at) count (suc n) sound h in
      let b = (both (not (wrong_place (at (suc n)))) _ s).1 in
      let some : eqb (suc n) 0 ≡ false = ne_eqb (suc n) 0 (λ q. omega arith) in
      let one : suc n - 1 ≡ n = omega arith in
      let c : before (at n) (at (suc n)) ≡ true = rw (some, one) at b in
      ltb-true (key_of (at n)) (key_of (at (suc n))) (sym (before_key (at n) (at (suc n)) (small_at n (omega arith)) (small_at (suc n) h)) ∙ c)

  -- A later record has a higher key.
  pub rising : (n m : ℕ) → m < n → n < count → key_of (at m) < key_of (at n)
  rising zero m h l = absurd (not-suc-le-zero h)
  rising (suc n) m h l =
      ⊎_elim (λ q. rw q (next_higher n l)) (λ k. omega (arith, rising n m k (omega arith), next_higher n l)) (eq-or-lt_of_le (le_of_suc-le-suc h))

  pub rising_faces : (m n : ℕ) → m ≤ n → n < count → (at m).face ≤ (at n).face
  rising_faces m n h l =
      ⊎_elim (λ q. rw q (omega arith))
      (λ k. key_face (at m) (at n) (small_at m (omega arith)) (small_at n l) (omega (arith, rising n m k l))) (eq-or-lt_of_le h)

-- places that agree stand in the same order
pub sound_same : (f g : ℕ → Place) (count : ℕ) → ((k : ℕ) → k < count → f k ≡ g k) → sound_to f count ≡ sound_to g count
unfolding follows sound_at
sound_same f g count h = all_same (sound_at f) (sound_at g) count (λ n l. rw (h n l, h (n - 1) (omega arith)))
