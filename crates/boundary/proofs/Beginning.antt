-- A boundary of length n is the beginning of the boundary of full length from the same start. Assumes nothing.
use mathlib.Core.Path.{◌≡◌, refl, sym, ap, ◌∙◌, subst}
use mathlib.Core.Bool.{Bool, false}
use mathlib.Core.List.{List, [], ◌∷◌, ◌++◌, append_assoc, append-nil}
use Prim.Native.Nat.{ℕ, zero, suc, ◌≤◌}
use native.Mathlib.Decide.{dec_le}
use native.Mathlib.Omega.{arith}
use lib.Dec.{leb, ltb}
use lib.ListN.{length, take}
use lib.Seq.{take-append_seam}
use borrow.Author.Tests.{eq-eqb, le-ltb}
use Rattle.reply.specs.declared.Refusal.TheVariants.{OutOfFace}
use Rattle.reply.specs.Replies.{when, first, Verdict, fine}
use Rattle.reply.proofs.Entries.{neither}
use Rattle.faceijk.specs.declared.Place.{Place}
use Rattle.boundary.specs.declared.Shape.{Shape}
use Rattle.boundary.specs.declared.BoundaryPoint.{BoundaryPoint}
use Rattle.boundary.specs.Corners.{cell_reasons}
use Rattle.boundary.specs.AsWalked.{cell_verdict}
use Rattle.boundary.specs.Boundaries.{points_in, points_to, or_else, verdict_to, turns_for, bad_range, out_of_face, boundary_reasons, asked_shape, boundary_verdict, boundary_points}
use Rattle.boundary.proofs.Asked.{asked}
use Rattle.boundary.proofs.Foremost.{both_fine}
use Rattle.boundary.proofs.Verdicts.{first_append, turns_few}

module _ (s : Shape) (k : ℕ) where
  grows : (n : ℕ) → k ≤ n → (rest : List BoundaryPoint) × (points_to s n ≡ points_to s k ++ rest)
  unfolding points_to
  grows zero h = let z : 0 ≡ k = omega arith in ([], ap (points_to s) z ∙ sym (append-nil (points_to s k)))
  grows (suc n) h =
      elim (dec_le k n) [
        | yes a ↦
            let r = grows n a in
            (r.0 ++ points_in s n, ap (λ (ps : List BoundaryPoint). ps ++ points_in s n) r.1 ∙ append_assoc (points_to s k) r.0 (points_in s n))
        | no a ↦ let z : suc n ≡ k = omega arith in ([], ap (points_to s) z ∙ sym (append-nil (points_to s k)))
      ]

  -- The points of the first k turns are the beginning of those of the first n.
  pub beginning : (n : ℕ) → k ≤ n → take (length (points_to s k)) (points_to s n) ≡ points_to s k
  beginning n h = let r = grows n h in ap (take (length (points_to s k))) r.1 ∙ take-append_seam (points_to s k) r.0

  pub fine_before : (n : ℕ) → k ≤ n → verdict_to s n ≡ fine → verdict_to s k ≡ fine
  unfolding verdict_to
  fine_before zero h e = let z : 0 ≡ k = omega arith in subst (λ (m : ℕ). verdict_to s m ≡ fine) z e
  fine_before (suc n) h e =
      elim (dec_le k n) [
        | yes a ↦ fine_before n a (both_fine (verdict_to s n) _ e).0
        | no a ↦ let z : suc n ≡ k = omega arith in subst (λ (m : ℕ). verdict_to s m ≡ fine) z e
      ]

-- A boundary of length n, where that of full length is given, is its beginning.
module _ (sides : ℕ) (p : Place) (l start n : ℕ) (h : n ≤ sides) where
  fewer : turns_for sides n ≤ turns_for sides sides
  fewer = rw (eq-eqb sides sides refl) (omega (arith, turns_few sides n h))

  tests_fine : first (boundary_reasons sides p l start sides) ≡ fine → first (boundary_reasons sides p l start n) ≡ fine
  tests_fine e =
      let bad = bad_range sides start sides in
      let t = both_fine (cell_verdict p l bad) _ (sym (first_append (cell_reasons p l bad) (when (out_of_face p l) OutOfFace ∷ [])) ∙ e) in
      let r = (asked p l bad t.0).ranged in
      let below = (neither (leb sides start) (ltb sides sides) r).0 in
      let good : bad_range sides start n ≡ false = simp (below, le-ltb sides n h) in
      ap (λ (b : Bool). first (cell_reasons p l b ++ when (out_of_face p l) OutOfFace ∷ [])) (good ∙ sym r) ∙ e

  pub shorter : boundary_verdict sides p l start sides ≡ fine → (boundary_verdict sides p l start n ≡ fine) × (take (length (boundary_points sides p l start n)) (boundary_points sides p l start sides) ≡ boundary_points sides p l start n)
  unfolding boundary_verdict boundary_points
  shorter e =
      let s = asked_shape sides p l start in
      let t = both_fine _ _ e in
      let v = fine_before s (turns_for sides n) (turns_for sides sides) fewer t.1 in
      (ap (λ (x : Verdict). or_else x (verdict_to s (turns_for sides n))) (tests_fine t.0) ∙ v, beginning s (turns_for sides n) (turns_for sides sides) fewer)
