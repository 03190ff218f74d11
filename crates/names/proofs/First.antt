-- The first name: it can be reached, no name has a lower face, two points have it in common exactly when they are the same. Assumes nothing.
use mathlib.Core.Path.{◌≡◌, refl, sym, ap, ◌∙◌, subst}
use mathlib.Core.Bool.{Bool, true, false, ◌||◌}
use Prim.Native.Nat.{ℕ, zero, suc, ◌≤◌, ◌<◌}
use native.Mathlib.Nat.{not-suc-le-zero}
use native.Mathlib.Omega.{arith}
use lib.Dec.{ltb}
use borrow.Author.Tests.{ltb-true, ltb-false}
use Rattle.reply.specs.Choice.{pick}
use Rattle.level.specs.declared.Grid.{Grid}
use Rattle.level.specs.Levels.{Sound}
use Rattle.faceijk.specs.declared.Place.{Place}
use Rattle.faceijk.specs.Places.{same_place}
use Rattle.faceijk.proofs.Unique.{found_same, same_itself}
use Rattle.names.specs.Names.{Reached}
use Rattle.names.specs.Row.{next_name, others, among, same_of, lower, lowest, first_of}
use Rattle.names.proofs.Sorts.{Kind}
use Rattle.names.proofs.Rows.{name_at, Along, stop, on, along_trans, along_kind, along_sym, reached_along, along_reached, in_row, one_a_face}

-- the lower of two is one of them, and no face of the two is lower
lower_one : (P : Place → Type 0) (a b : Place) → P a → P b → P (lower a b)
unfolding lower
lower_one P a b x y = go (ltb b.face a.face)
  where
    go : (t : Bool) → P (pick t b a)
    go true = y
    go false = x

lower_low : (a b : Place) → ((lower a b).face ≤ a.face) × ((lower a b).face ≤ b.face)
unfolding lower
lower_low a b = go (ltb b.face a.face) refl
  where
    go : (t : Bool) → ltb b.face a.face ≡ t → ((pick t b a).face ≤ a.face) × ((pick t b a).face ≤ b.face)
    go true e = let l = ltb-true b.face a.face e in (omega arith, omega arith)
    go false e = let l = ltb-false b.face a.face e in (omega arith, omega arith)

module _ (g : Grid) where
  lowest_along : (n : ℕ) (s a p : Place) → Along g s a → Along g s p → Along g s (lowest n g a p)
  unfolding lowest
  lowest_along zero s a p x y = x
  lowest_along (suc n) s a p x y =
      let z = along_trans y (on stop) in
      lowest_along n s (lower a (next_name g p)) (next_name g p) (lower_one (Along g s) a (next_name g p) x z) z

  lowest_first : (n : ℕ) (a p : Place) → (lowest n g a p).face ≤ a.face
  unfolding lowest
  lowest_first zero a p = omega arith
  lowest_first (suc n) a p =
      let l = lowest_first n (lower a (next_name g p)) (next_name g p) in
      let m = lower_low a (next_name g p) in
      omega arith

  lowest_low : (n j : ℕ) (a p : Place) → j < n → (lowest n g a p).face ≤ (name_at (suc j) g p).face
  unfolding lowest name_at
  lowest_low zero j a p l = absurd (not-suc-le-zero l)
  lowest_low (suc n) zero a p l =
      let q = lowest_first n (lower a (next_name g p)) (next_name g p) in
      let m = lower_low a (next_name g p) in
      omega arith
  lowest_low (suc n) (suc j) a p l = lowest_low n j (lower a (next_name g p)) (next_name g p) (omega arith)

  first_along : (p : Place) → Along g p (first_of g p)
  unfolding first_of
  first_along p = lowest_along (others g p) p p p stop stop

  row_low : (p : Place) (n : ℕ) → n ≤ others g p → (first_of g p).face ≤ (name_at n g p).face
  unfolding first_of name_at
  row_low p zero l = lowest_first (others g p) p p
  row_low p (suc n) l = lowest_low (others g p) n p p l

module _ (g : Grid) (sound : Sound g) where
  first_low : {p q : Place} → Kind g p → Along g p q → (first_of g p).face ≤ q.face
  first_low {p} k a = let r = in_row g sound k a in rw r.2 (row_low g p r.0 r.1)

  along_first : {p q : Place} → Kind g p → Along g p q → first_of g p ≡ first_of g q
  along_first {p} {q} k a =
      let there = along_trans a (first_along g q) in
      let back = along_trans (along_sym g sound k a) (first_along g p) in
      let x = first_low k there in
      let y = first_low (along_kind g sound k a) back in
      one_a_face g sound k (first_along g p) there (omega arith)

  first_meets : {p q : Place} → Kind g p → Kind g q → first_of g p ≡ first_of g q → Along g p q
  first_meets {p} {q} k j e =
      along_trans (subst (λ (n : Place). Along g p n) e (first_along g p)) (along_sym g sound j (first_along g q))

or_true : (a : Bool) → (a || true) ≡ true
or_true true = refl
or_true false = refl

module _ (g : Grid) where
  among_along : (n : ℕ) (p q : Place) → among n g p q ≡ true → Along g p q
  unfolding among
  among_along zero p q e = subst (λ (x : Place). Along g p x) (found_same p q e) stop
  among_along (suc n) p q e = go (same_place p q) refl (among_along n (next_name g p) q) e
    where
      go : (b : Bool) → same_place p q ≡ b → (among n g (next_name g p) q ≡ true → Along g (next_name g p) q) → (b || among n g (next_name g p) q) ≡ true → Along g p q
      go true h f t = subst (λ (x : Place). Along g p x) (found_same p q h) stop
      go false h f t = on (f t)

  among_at : (n j : ℕ) (p q : Place) → j ≤ n → q ≡ name_at j g p → among n g p q ≡ true
  unfolding among name_at
  among_at zero zero p q l e = rw e (same_itself p)
  among_at zero (suc j) p q l e = absurd (not-suc-le-zero l)
  among_at (suc n) zero p q l e = simp (ap (same_place p) e ∙ same_itself p)
  among_at (suc n) (suc j) p q l e = simp (among_at n j (next_name g p) q (omega arith) e) (or_true (same_place p q))

module _ (g : Grid) (sound : Sound g) {p q : Place} (k : Kind g p) where
  -- the answer is yes exactly when one name can be reached from the other
  pub yes_reached : same_of g p q ≡ true → Reached g p q
  unfolding same_of
  yes_reached e = along_reached g sound k (among_along g (others g p) p q e)

  pub reached_yes : Reached g p q → same_of g p q ≡ true
  unfolding same_of
  reached_yes r = let w = in_row g sound k (reached_along g sound k r) in among_at g (others g p) w.0 p q w.1 w.2

  -- no name has a lower face than the first; a name has a face for itself
  pub first_lowest : Reached g p q → (first_of g p).face ≤ q.face
  first_lowest r = first_low g sound k (reached_along g sound k r)

  pub one_name_a_face : (r : Place) → Reached g p q → Reached g p r → q.face ≡ r.face → q ≡ r
  one_name_a_face r a b e = one_a_face g sound k (reached_along g sound k a) (reached_along g sound k b) e

  -- what can be reached leads back
  pub reached_back : Reached g p q → Reached g q p
  reached_back r =
      let a = reached_along g sound k r in
      along_reached g sound (along_kind g sound k a) (along_sym g sound k a)

  -- same exactly when first names are equal
  pub reached_first : Reached g p q → first_of g p ≡ first_of g q
  reached_first r = along_first g sound k (reached_along g sound k r)

  pub first_same : Kind g q → first_of g p ≡ first_of g q → Reached g p q
  first_same j e = along_reached g sound k (first_meets g sound k j e)

module _ (g : Grid) (sound : Sound g) {p : Place} (k : Kind g p) where
  -- the first name can be reached
  pub first_reached : Reached g p (first_of g p)
  first_reached = along_reached g sound k (first_along g p)

  -- naming twice changes nothing
  pub named_twice : first_of g (first_of g p) ≡ first_of g p
  named_twice = sym (along_first g sound k (first_along g p))
