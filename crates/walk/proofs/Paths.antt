-- The places of a walk: none within the limit, one step and the rest beyond it, and as many as settling counts. Assumes nothing.
use mathlib.Core.Path.{◌≡◌, refl, sym, ap, ◌∙◌}
use mathlib.Core.Bool.{Bool, true, false}
use mathlib.Core.List.{List, [], ◌∷◌}
use Prim.Native.Nat.{ℕ, zero, suc, ◌+◌, ◌-◌, ◌≤◌, ◌<◌}
use native.Mathlib.Decide.{dec_lt}
use native.Mathlib.Omega.{arith}
use lib.Dec.{ltb}
use lib.ListN.{length}
use borrow.Author.Tests.{lt-ltb, le-ltb}
use Rattle.reply.specs.Choice.{pick}
use Rattle.level.specs.declared.Grid.{Grid}
use Rattle.level.specs.Levels.{Sound}
use Rattle.coordijk.specs.Coordinates.{least_of}
use Rattle.faceijk.specs.declared.Place.{Place}
use Rattle.faceijk.specs.declared.Landed.{Landed}
use Rattle.faceijk.specs.declared.Rested.{Rested}
use Rattle.faceijk.specs.declared.Overage.TheVariants.{FaceEdge, NewFace}
use Rattle.faceijk.specs.Places.{coord_of, sum_at, QAt}
use Rattle.faceijk.specs.Crossing.{on_edge, step_out, landed, crossing_of, settle_from}
use Rattle.faceijk.proofs.Crossing.{stays_on_edge, stays, goes, off_edge, edge_sum}
use Rattle.faceijk.proofs.Settling.{rests, steps, closer, lower}
use Rattle.walk.specs.Texts.{onward, path_from, path}

module _ (g : Grid) where
  abbrev after : ℕ → Place → Landed → List Place
  after t p c = onward (path_from t g) (ltb g.limit (sum_at p)) c.overage c.place

  -- within the limit no step is made
  pub path_near : (t : ℕ) (p : Place) → sum_at p ≤ g.limit → path_from t g p ≡ []
  unfolding path_from
  path_near zero p h = refl
  path_near (suc t) p h = go (on_edge g p) refl
    where
      go : (b : Bool) → b ≡ on_edge g p → after t p (crossing_of false g p) ≡ []
      go true e =
          sym (ap (after t p) (stays_on_edge false g p true e refl)) ∙
          ap (λ (x : Bool). pick x (p ∷ []) []) (le-ltb g.limit (sum_at p) h)
      go false e = sym (ap (after t p) (stays false g p false e refl h))

  -- beyond it the walk steps and goes on
  pub path_far : (t : ℕ) (p : Place) → g.limit < sum_at p → path_from (suc t) g p ≡ step_out false g p ∷ path_from t g (step_out false g p)
  unfolding path_from
  path_far t p h = go (on_edge g q) refl
    where
      q : Place
      q = step_out false g p

      came : (d : Bool) → d ≡ on_edge g q → landed q (pick d FaceEdge NewFace) ≡ crossing_of false g p
      came d e = goes false g p false (sym (off_edge g p h)) refl h q d refl e

      go : (d : Bool) → d ≡ on_edge g q → after t p (crossing_of false g p) ≡ q ∷ path_from t g q
      go true e =
          sym (ap (after t p) (came true e)) ∙
          (ap (λ (x : Bool). pick x (q ∷ []) []) (lt-ltb g.limit (sum_at p) h) ∙
          ap (λ (x : List Place). q ∷ x) (sym (path_near t q (omega (arith, edge_sum g q (sym e))))))
      go false e = sym (ap (after t p) (came false e))

-- where a crossing beyond the limit lands
pub lands : (g : Grid) (p : Place) → g.limit < sum_at p → (crossing_of false g p).place ≡ step_out false g p
lands g p h = sym (ap (λ (c : Landed). c.place) (goes false g p false (sym (off_edge g p h)) refl h (step_out false g p) _ refl refl))

module _ (g : Grid) (sound : Sound g) where
  some : 0 < g.limit
  some = omega (arith, sound.twice, sound.some)

  -- more steps than Q allows are never made
  enough : (t u : ℕ) (p : Place) → least_of (coord_of p) ≡ 0 → QAt p ≤ t → QAt p ≤ u → path_from t g p ≡ path_from u g p
  enough zero u p flat a b =
      elim (dec_lt g.limit (sum_at p)) [
        | yes far ↦ absurd (omega (arith, lower g sound p far flat, some))
        | no near ↦ path_near g 0 p (omega arith) ∙ sym (path_near g u p (omega arith))
      ]
  enough (suc t) zero p flat a b =
      elim (dec_lt g.limit (sum_at p)) [
        | yes far ↦ absurd (omega (arith, lower g sound p far flat, some))
        | no near ↦ path_near g (suc t) p (omega arith) ∙ sym (path_near g 0 p (omega arith))
      ]
  enough (suc t) (suc u) p flat a b =
      elim (dec_lt g.limit (sum_at p)) [
        | yes far ↦
            let q = step_out false g p in
            let l = lower g sound p far flat in
            path_far g t p far ∙
            (ap (λ (x : List Place). q ∷ x) (enough t u q (closer g sound p far flat).flat (omega (arith, l, some)) (omega (arith, l, some))) ∙
            sym (path_far g u p far))
        | no near ↦ path_near g (suc t) p (omega arith) ∙ sym (path_near g (suc u) p (omega arith))
      ]

  -- the walk from a place beyond the limit: one step, then the walk from there
  pub path_on : (p : Place) → least_of (coord_of p) ≡ 0 → g.limit < sum_at p → path g p ≡ step_out false g p ∷ path g (step_out false g p)
  unfolding path
  path_on p flat far =
      let q = step_out false g p in
      let l = lower g sound p far flat in
      let t = QAt p - 1 in
      let one : QAt p ≡ suc t = omega (arith, l, some) in
      ap (λ (n : ℕ). path_from n g p) one ∙
      (path_far g t p far ∙
      ap (λ (x : List Place). q ∷ x) (enough t (QAt q) q (closer g sound p far flat).flat (omega (arith, l, some)) (omega arith)))

pub path_ends : (g : Grid) (p : Place) → sum_at p ≤ g.limit → path g p ≡ []
unfolding path
path_ends g p h = path_near g (QAt p) p h

at_once : (g : Grid) (p : Place) (n : ℕ) → (settle_from 0 g p n).steps ≡ n + length (path_from 0 g p)
unfolding settle_from path_from
at_once g p n = omega arith

-- settling counts the steps of the walk
counted : (g : Grid) (t : ℕ) (p : Place) (n : ℕ) → (settle_from t g p n).steps ≡ n + length (path_from t g p)
counted g zero p n = at_once g p n
counted g (suc t) p n =
    elim (dec_lt g.limit (sum_at p)) [
      | yes far ↦
          ap (λ (s : Rested). s.steps) (steps g t p n far) ∙
          (counted g t (step_out false g p) (n + 1) ∙
          omega (arith, ap length (path_far g t p far)))
      | no near ↦
          ap (λ (s : Rested). s.steps) (rests g (suc t) p n (omega arith)) ∙
          omega (arith, ap length (path_near g (suc t) p (omega arith)))
    ]

-- `rest` has as many steps as there are `over` lines
pub as_many : (g : Grid) (p : Place) → (settle_from (QAt p) g p 0).steps ≡ length (path g p)
unfolding path
as_many g p = counted g (QAt p) p 0 ∙ omega arith
