-- The loops of `are_same` and `first_of`: the start, one name more, the end. Assumes nothing.
use mathlib.Core.Path.{◌≡◌, refl, sym, ap, ◌∙◌}
use mathlib.Core.Bool.{Bool, true, false, ◌||◌}
use Prim.Native.Nat.{ℕ, zero, suc, ◌-◌, ◌<◌}
use native.Mathlib.Nat.{not-suc-le-zero}
use native.Mathlib.Omega.{arith}
use Rattle.level.specs.declared.Grid.{Grid}
use Rattle.faceijk.specs.declared.Place.{Place}
use Rattle.faceijk.specs.Places.{same_place}
use Rattle.names.specs.Row.{next_name, others, among, same_of, lower, lowest, first_of}

-- the code's loop that compares: one name more, the start, and the end
either : (a b c : Bool) → ((a || b) || c) ≡ (a || (b || c))
either true b c = refl
either false b c = refl

module _ (g : Grid) (p q : Place) where
  pub compared_on : (n : ℕ) → 0 < n → (a b : Bool) → b ≡ same_place p q → (r : Place) → r ≡ next_name g p → ((a || b) || among (n - 1) g r q) ≡ (a || among n g p q)
  unfolding among
  compared_on zero l a b e r h = absurd (not-suc-le-zero l)
  compared_on (suc n) l a b e r h =
      let m : suc n - 1 ≡ n = omega arith in
      either a b _ ∙ (λ i. a || (e i || among (m i) g (h i) q))

  pub compared_last : (n : ℕ) → n ≡ 0 → (a b : Bool) → b ≡ same_place p q → (a || b) ≡ (a || among n g p q)
  unfolding among
  compared_last n z a b e = ap (λ (x : Bool). a || x) (e ∙ ap (λ (x : ℕ). among x g p q) (sym z))

  pub compared_first : (n : ℕ) → n ≡ others g p → among n g p q ≡ same_of g p q
  unfolding same_of
  compared_first n e = ap (λ (x : ℕ). among x g p q) e

-- the code's loop that names: one name more, and the end
module _ (g : Grid) (a p : Place) where
  pub goes_on : (n : ℕ) → 0 < n → (q b : Place) → q ≡ next_name g p → b ≡ lower a q → lowest (n - 1) g b q ≡ lowest n g a p
  unfolding lowest
  goes_on zero l q b e h = absurd (not-suc-le-zero l)
  goes_on (suc n) l q b e h =
      let m : suc n - 1 ≡ n = omega arith in
      ap (λ (x : ℕ). lowest x g b q) m ∙ (ap (λ (x : Place). lowest n g x q) h ∙ ap (λ (x : Place). lowest n g (lower a x) x) e)

  pub ends : (n : ℕ) → n ≡ 0 → a ≡ lowest n g a p
  unfolding lowest
  ends n e = ap (λ (x : ℕ). lowest x g a p) (sym e)

  pub starts : (n : ℕ) → n ≡ others g p → lowest n g p p ≡ first_of g p
  unfolding first_of
  starts n e = ap (λ (x : ℕ). lowest x g p p) e
