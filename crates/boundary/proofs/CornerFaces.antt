-- Every corner point lies on the centre's face or on one that its crossings reach; every other point is a crossing point. Assumes nothing.
use mathlib.Core.Path.{◌≡◌, refl, sym, ◌∙◌}
use mathlib.Core.Bool.{true}
use mathlib.Core.Logic.{◌⊎◌, inl, inr}
use mathlib.Core.List.{List, [], ◌∷◌, ◌++◌}
use Prim.Native.Nat.{ℕ, zero, suc, ◌*◌, ◌≤◌}
use lib.Dec.{ltb}
use borrow.Author.Tests.{ltb-false}
use Rattle.reply.specs.declared.Refusal.{Refusal}
use Rattle.std.specs.Prelude.{Ok, Err, Result, Option, Some, None}
use Rattle.reply.specs.declared.Refusal.TheVariants.{OutOfFace}
use Rattle.reply.specs.Replies.{when, first, fine}
use Rattle.reply.specs.Order.{Each}
use Rattle.reply.proofs.Entries.{passed}
use Rattle.level.specs.Levels.{raised_of, limit_of}
use Rattle.coordijk.specs.Coordinates.{sum_of}
use Rattle.faceijk.specs.declared.Place.{Place}
use Rattle.faceijk.specs.Places.{coord_of, sum_at}
use Rattle.faceijk.proofs.Taking.{sound_at}
use Rattle.boundary.specs.declared.Shape.{Shape}
use Rattle.boundary.specs.declared.BoundaryPoint.{BoundaryPoint}
use Rattle.boundary.specs.Corners.{class_iii, through_apertures, cell_reasons}
use Rattle.boundary.specs.Landing.{cell_of, substrate_of, corner_place, vertex_of, land_at, Reached}
use Rattle.boundary.specs.CrossingPoints.{a_crossing, corner_point, before_at}
use Rattle.boundary.specs.Boundaries.{points_before, corners_in, points_in, points_to, bad_range, out_of_face, boundary_reasons, asked_shape}
use Rattle.boundary.specs.AsWalked.{cell_verdict, Fit}
use Rattle.boundary.proofs.Asked.{Asked, asked}
use Rattle.boundary.proofs.Cells.{solid, substrate_limit}
use Rattle.boundary.proofs.Landing.{vertex_low, corner_okay, land_reached}
use Rattle.boundary.proofs.Foremost.{both_fine}
use Rattle.boundary.proofs.Verdicts.{first_append, ranged}
use Rattle.boundary.proofs.CrossingRefusals.{Fair, point_there, either, TwelveOrThirteen, fair}

each_append : (P : BoundaryPoint → Type 0) (xs ys : List BoundaryPoint) → Each P xs → Each P ys → Each P (xs ++ ys)
each_append P [] ys f g = g
each_append P (x ∷ xs) ys f g = (f.0, each_append P xs ys f.1 g)

-- a point of corner v, which crossings lead from the centre's face to q
pub record CornerAt (s : Shape) (p : BoundaryPoint) : Type 0 where
  pub v : ℕ
  pub q : Place
  pub reached : Reached (substrate_of s.cell.level) (corner_place s.cell v) q
  pub is : p ≡ corner_point q

abbrev pub Placed : Shape → BoundaryPoint → Type 0
Placed s p = (p.mark ≡ a_crossing) ⊎ CornerAt s p

module _ (s : Shape) (fit : Fit s) where
  corner_at : (k : ℕ) → CornerAt s (corner_point (land_at s k).place)
  unfolding land_at
  corner_at k =
      let g = substrate_of s.cell.level in
      let p = corner_place s.cell (vertex_of s k) in
      let okay = corner_okay s (vertex_of s k) fit (vertex_low s k fit.solid) in
      record { v = vertex_of s k; q = _; reached = land_reached s.sides g (sound_at s.cell.level.0 true fit.solid.level) p okay; is = refl }

  before_placed : (b : Result (Option BoundaryPoint) Refusal) → Fair TwelveOrThirteen b → Each (Placed s) (points_before b)
  before_placed (Ok None) h = tt
  before_placed (Ok (Some p)) (point_there m) = (inl m, tt)
  before_placed (Err r) h = tt

  corners_placed : (k : ℕ) → Each (Placed s) (corners_in s k)
  corners_placed k = either (Each (Placed s)) (ltb k s.sides) (inr (corner_at k), tt) tt

  -- Each point of a boundary is a crossing point, or a corner on a face that its crossings reach from the centre's.
  pub corner_faces : (k : ℕ) → Each (Placed s) (points_to s k)
  unfolding points_to points_in
  corner_faces zero = tt
  corner_faces (suc k) =
      each_append (Placed s) (points_to s k) _ (corner_faces k)
      (each_append (Placed s) (points_before (before_at s k)) _ (before_placed (before_at s k) (fair s k)) (corners_placed k))

near_of : (sides : ℕ) (p : Place) (l start : ℕ) → sum_of (through_apertures (class_iii l) (coord_of p)) ≤ limit_of (raised_of l) true → let s = asked_shape sides p l start in sum_at s.cell.centre ≤ 3 * s.cell.m
unfolding cell_of
near_of sides p l start h = rw (← (substrate_limit (raised_of l))) h

-- An entry whose tests found nothing: what they leave known, and that its shape fits, so all of this holds of its boundary.
tests_fine : (sides : ℕ) (p : Place) (l start n : ℕ) → first (boundary_reasons sides p l start n) ≡ fine → (cell_verdict p l (bad_range sides start n) ≡ fine) × (first (when (out_of_face p l) OutOfFace ∷ []) ≡ fine)
tests_fine sides p l start n e =
    let bad = bad_range sides start n in
    both_fine (cell_verdict p l bad) _ (sym (first_append (cell_reasons p l bad) (when (out_of_face p l) OutOfFace ∷ [])) ∙ e)

pub asked_of : (sides : ℕ) (p : Place) (l start n : ℕ) → first (boundary_reasons sides p l start n) ≡ fine → Asked p l (bad_range sides start n)
asked_of sides p l start n e = asked p l (bad_range sides start n) (tests_fine sides p l start n e).0

pub asked_fit : (sides : ℕ) (p : Place) (l start n : ℕ) → 5 ≤ sides → sides ≤ 6 → first (boundary_reasons sides p l start n) ≡ fine → Fit (asked_shape sides p l start)
asked_fit sides p l start n many few e =
    let a = asked_of sides p l start n e in
    let inside = (passed (out_of_face p l) OutOfFace _ (tests_fine sides p l start n e).1).0 in
    record { solid = solid sides p l start (cell_of p l) refl a.on a.level many few (ranged sides start n a.ranged).0; near = near_of sides p l start (ltb-false _ _ inside) }
