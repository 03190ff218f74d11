-- The step over an edge, as sums, by the number of its turns. Assumes nothing.
use mathlib.Core.Path.{◌≡◌, refl, sym, ap, ◌∙◌}
use mathlib.Core.Bool.{Bool, true, false}
use Prim.Native.Nat.{ℕ, ◌+◌, ◌*◌}
use native.Mathlib.Omega.{arith}
use Rattle.reply.specs.Choice.{pick}
use Rattle.coordijk.specs.declared.CoordIJK.{CoordIJK}
use Rattle.coordijk.specs.Coordinates.{coord, least, reduced}
use Rattle.coordijk.specs.Maps.{turns_of}
use Rattle.coordijk.proofs.Reducing.{reduced_shift}
use Rattle.coordijk.proofs.Turning.{turned_1, turned_3, turned_5}
use Rattle.faceijk.specs.declared.Place.{Place}
use Rattle.faceijk.specs.Places.{place, coord_of}
use Rattle.faceijk.specs.Faces.{face_over}
use Rattle.faceijk.specs.Steps.{Move, move, polar, polar_move, equator_move, move_over, translated, step_of}

-- a translation looks through the reducing
translated_reduced : (a b c x y z u : ℕ) → translated (reduced a b c) (coord x y z) u ≡ reduced (a + x * u) (b + y * u) (c + z * u)
unfolding reduced
translated_reduced a b c x y z u =
    let l = least a b c in
    reduced_shift _ _ _ (a + x * u) (b + y * u) (c + z * u) l 0 (omega arith) (omega arith) (omega arith)

module _ (p : Place) (e u x y z : ℕ) where
  step_by : (n a b c : ℕ) → move_over p.face e ≡ move n x y z → turns_of n (coord_of p) ≡ reduced a b c → step_of p e u ≡ place (face_over p.face e) (reduced (a + x * u) (b + y * u) (c + z * u))
  unfolding step_of
  step_by n a b c h t =
      ap (λ (m : Move). place (face_over p.face e) (translated (turns_of m.turns (coord_of p)) m.by u)) h ∙
      ap (place (face_over p.face e)) (ap (λ (d : CoordIJK). translated d (coord x y z) u) t ∙ translated_reduced _ _ _ _ _ _ _)

  pub step_1 : move_over p.face e ≡ move 1 x y z → step_of p e u ≡ place (face_over p.face e) (reduced (p.k + p.i + x * u) (p.i + p.j + y * u) (p.j + p.k + z * u))
  step_1 h = step_by 1 _ _ _ h (turned_1 (coord_of p))

  pub step_3 : move_over p.face e ≡ move 3 x y z → step_of p e u ≡ place (face_over p.face e) (reduced (p.j + p.k + x * u) (p.k + p.i + y * u) (p.i + p.j + z * u))
  step_3 h = step_by 3 _ _ _ h (turned_3 (coord_of p))

  pub step_5 : move_over p.face e ≡ move 5 x y z → step_of p e u ≡ place (face_over p.face e) (reduced (p.i + p.j + x * u) (p.j + p.k + y * u) (p.k + p.i + z * u))
  step_5 h = step_by 5 _ _ _ h (turned_5 (coord_of p))

-- two places that reduce the same numbers on one face are one
pub alike : (r s : Place) (f a b c g x y z : ℕ) → r ≡ place f (reduced a b c) → s ≡ place g (reduced x y z) → (f ≡ g) × (a ≡ x) × (b ≡ y) × (c ≡ z) → r ≡ s
alike r s f a b c g x y z p q e = p ∙ ((λ n. place (e.0 n) (reduced (e.1 n) (e.2 n) (e.3 n))) ∙ sym q)

-- the rows of the step table, by edge
module _ (f : ℕ) where
  pub jk_move : move_over f 3 ≡ move 3 0 2 2
  unfolding move_over
  jk_move = go (polar f)
    where
      go : (b : Bool) → pick b (polar_move 3) (equator_move 3) ≡ move 3 0 2 2
      go true = refl
      go false = refl

  pub polar_ij : polar f ≡ true → move_over f 1 ≡ move 1 2 0 2
  unfolding move_over
  polar_ij h = simp h

  pub polar_ki : polar f ≡ true → move_over f 2 ≡ move 5 2 2 0
  unfolding move_over
  polar_ki h = simp h

  pub equator_ij : polar f ≡ false → move_over f 1 ≡ move 3 2 2 0
  unfolding move_over
  equator_ij h = simp h

  pub equator_ki : polar f ≡ false → move_over f 2 ≡ move 3 2 0 2
  unfolding move_over
  equator_ki h = simp h
