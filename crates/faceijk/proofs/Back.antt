-- One step back over the same edge, as seen from the new face, restores the place. Assumes nothing.
use mathlib.Core.Path.{◌≡◌, refl, ap, ◌∙◌}
use mathlib.Core.Bool.{Bool, true, false}
use Prim.Native.Nat.{ℕ, zero, suc, ◌+◌, ◌*◌, ◌≤◌, ◌<◌}
use native.Mathlib.Nat.{not-suc-le-zero}
use native.Mathlib.Omega.{arith}
use Rattle.reply.specs.Choice.{pick}
use Rattle.coordijk.specs.Coordinates.{least, least_of, reduced}
use Rattle.coordijk.proofs.Reducing.{reduced_shift, reduced_idle}
use Rattle.faceijk.specs.declared.Place.{Place}
use Rattle.faceijk.specs.Places.{place, coord_of, sum_at}
use Rattle.faceijk.specs.Faces.{face_over, dir_to}
use Rattle.faceijk.specs.Steps.{polar, move, move_over, step_of}
use Rattle.faceijk.proofs.Stepping.{step_1, step_3, step_5, jk_move, polar_ij, polar_ki, equator_ij, equator_ki}
use Rattle.faceijk.proofs.Faces.{mate_over}

-- a step from a place that is given unreduced
module _ (g a b c e u x y z : ℕ) where
  from_1 : move_over g e ≡ move 1 x y z → step_of (place g (reduced a b c)) e u ≡ place (face_over g e) (reduced (c + a + x * u) (a + b + y * u) (b + c + z * u))
  unfolding reduced
  from_1 h =
      step_1 (place g (reduced a b c)) e u x y z h ∙
      ap (place (face_over g e)) (reduced_shift _ _ _ (c + a + x * u) (a + b + y * u) (b + c + z * u) (2 * least a b c) 0 (omega arith) (omega arith) (omega arith))

  from_3 : move_over g e ≡ move 3 x y z → step_of (place g (reduced a b c)) e u ≡ place (face_over g e) (reduced (b + c + x * u) (c + a + y * u) (a + b + z * u))
  unfolding reduced
  from_3 h =
      step_3 (place g (reduced a b c)) e u x y z h ∙
      ap (place (face_over g e)) (reduced_shift _ _ _ (b + c + x * u) (c + a + y * u) (a + b + z * u) (2 * least a b c) 0 (omega arith) (omega arith) (omega arith))

  from_5 : move_over g e ≡ move 5 x y z → step_of (place g (reduced a b c)) e u ≡ place (face_over g e) (reduced (a + b + x * u) (b + c + y * u) (c + a + z * u))
  unfolding reduced
  from_5 h =
      step_5 (place g (reduced a b c)) e u x y z h ∙
      ap (place (face_over g e)) (reduced_shift _ _ _ (a + b + x * u) (b + c + y * u) (c + a + z * u) (2 * least a b c) 0 (omega arith) (omega arith) (omega arith))

module _ (p : Place) (u : ℕ) (on : p.face < 20) (flat : least_of (coord_of p) ≡ 0) where
  -- two steps lay out the coordinates, each with the same number added
  home : (q : Place) (h x y z : ℕ) → q ≡ place h (reduced x y z) → h ≡ p.face → let t = sum_at p + 4 * u in (x ≡ p.i + t) × (y ≡ p.j + t) × (z ≡ p.k + t) → q ≡ p
  home q h x y z e f w =
      e ∙
      (ap (λ (g : ℕ). place g (reduced x y z)) f ∙
      ap (place p.face) (reduced_shift x y z _ _ _ 0 (sum_at p + 4 * u) (omega arith) (omega arith) (omega arith) ∙ reduced_idle (coord_of p) flat))

  back_jk : step_of (step_of p 3 u) 3 u ≡ p
  back_jk =
      home _ _ _ _ _ (ap (λ (q : Place). step_of q 3 u) (step_3 p 3 u 0 2 2 (jk_move _)) ∙ from_3 _ _ _ _ 3 u 0 2 2 (jk_move _))
      (mate_over 3 (omega arith) (omega arith) _ on).here (omega arith)

  back_ij : (b : Bool) → polar p.face ≡ b → step_of (step_of p 1 u) (pick b 2 1) u ≡ p
  back_ij true k =
      let m = mate_over 1 (omega arith) (omega arith) _ on in
      home _ _ _ _ _ (ap (λ (q : Place). step_of q 2 u) (step_1 p 1 u 2 0 2 (polar_ij _ k)) ∙ from_5 _ _ _ _ 2 u 2 2 0 (polar_ki _ (m.row ∙ k)))
      (simp k at m.here) (omega arith)
  back_ij false k =
      let m = mate_over 1 (omega arith) (omega arith) _ on in
      home _ _ _ _ _ (ap (λ (q : Place). step_of q 1 u) (step_3 p 1 u 2 2 0 (equator_ij _ k)) ∙ from_3 _ _ _ _ 1 u 2 2 0 (equator_ij _ (m.row ∙ k)))
      (simp k at m.here) (omega arith)

  back_ki : (b : Bool) → polar p.face ≡ b → step_of (step_of p 2 u) (pick b 1 2) u ≡ p
  back_ki true k =
      let m = mate_over 2 (omega arith) (omega arith) _ on in
      home _ _ _ _ _ (ap (λ (q : Place). step_of q 1 u) (step_5 p 2 u 2 2 0 (polar_ki _ k)) ∙ from_1 _ _ _ _ 1 u 2 0 2 (polar_ij _ (m.row ∙ k)))
      (simp k at m.here) (omega arith)
  back_ki false k =
      let m = mate_over 2 (omega arith) (omega arith) _ on in
      home _ _ _ _ _ (ap (λ (q : Place). step_of q 2 u) (step_3 p 2 u 2 0 2 (equator_ki _ k)) ∙ from_3 _ _ _ _ 2 u 2 0 2 (equator_ki _ (m.row ∙ k)))
      (simp k at m.here) (omega arith)

  -- demand 3: one step back, over the edge from the new face to the old, restores the place, its face included
  pub step_back : (e : ℕ) → 1 ≤ e → e ≤ 3 → step_of (step_of p e u) (dir_to (face_over p.face e) p.face) u ≡ p
  step_back zero l h = absurd (not-suc-le-zero l)
  step_back (suc zero) l h = rw (mate_over 1 l h _ on).back (back_ij (polar p.face) refl)
  step_back (suc (suc zero)) l h = rw (mate_over 2 l h _ on).back (back_ki (polar p.face) refl)
  step_back (suc (suc (suc zero))) l h = rw (mate_over 3 l h _ on).back back_jk
  step_back (suc (suc (suc (suc e)))) l h = absurd (omega arith)
