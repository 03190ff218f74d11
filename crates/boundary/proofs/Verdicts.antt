-- The verdict on a boundary, as the code comes to it: the tests of the cell, then whether its centre lies on its face, then the crossing points. Assumes nothing.
use mathlib.Core.Path.{◌≡◌, refl, sym, ap, ◌∙◌}
use mathlib.Core.Bool.{Bool, true, false}
use mathlib.Core.List.{List, [], ◌∷◌, ◌++◌}
use Prim.Native.Nat.{ℕ, suc, ◌+◌, ◌≤◌, ◌<◌}
use native.Mathlib.Omega.{arith}
use lib.Dec.{ltb, leb, eqb}
use lib.Ieee.{of_bits, to_bits}
use borrow.Author.Tests.{ltb-false, leb-false}
use Rattle.std.specs.Prelude.{Ok, Err}
use Rattle.reply.specs.Choice.{pick}
use Rattle.reply.specs.declared.Refusal.{Refusal}
use Rattle.reply.specs.declared.Refusal.TheVariants.{OutOfFace}
use Rattle.reply.specs.Replies.{Reason, when, first, reply, Verdict, fine}
use Rattle.reply.proofs.Entries.{neither}
use Rattle.level.specs.Levels.{raised_of}
use Rattle.coordijk.specs.Coordinates.{sum_of}
use Rattle.faceijk.specs.declared.Place.{Place}
use Rattle.faceijk.specs.Places.{coord_of}
use Rattle.boundary.specs.declared.BoundaryPoint.{BoundaryPoint}
use Rattle.boundary.specs.Corners.{class_iii, through_apertures, cell_reasons}
use Rattle.boundary.specs.Landing.{cell_of}
use Rattle.boundary.specs.Boundaries.{points_to, or_else, verdict_to, turns_for, bad_range, out_of_face, boundary_reasons, asked_shape, boundary_verdict, boundary_points, said_boundary, boundary_values, boundary_reply}
use Rattle.boundary.specs.AsWalked.{cell_verdict, boundary_of, outline_of, outside_verdict, within_of}
use Rattle.boundary.proofs.Cells.{substrate_limit}

-- reasons one after the other: the first of the one list, or else of the other
pub first_append : (rs ss : List Reason) → first (rs ++ ss) ≡ or_else (first rs) (first ss)
first_append [] ss = refl
first_append (r ∷ rs) ss = go r.applies (first_append rs ss)
  where
    go : (b : Bool) → first (rs ++ ss) ≡ or_else (first rs) (first ss) → pick b (Err r.refusal) (first (rs ++ ss)) ≡ or_else (pick b (Err r.refusal) (first rs)) (first ss)
    go true e = refl
    go false e = e

module _ (sides : ℕ) (p : Place) (l start n : ℕ) where
  pub outside_is : outside_verdict (asked_shape sides p l start) ≡ first (when (out_of_face p l) OutOfFace ∷ [])
  unfolding cell_of
  outside_is =
      ap (λ (m : ℕ). first (when (ltb m (sum_of (through_apertures (class_iii l) (coord_of p)))) OutOfFace ∷ [])) (sym (substrate_limit (raised_of l)))

  pub reasons_are : (v : Verdict) → cell_verdict p l (bad_range sides start n) ≡ v → first (boundary_reasons sides p l start n) ≡ or_else v (first (when (out_of_face p l) OutOfFace ∷ []))
  reasons_are v e =
      first_append (cell_reasons p l (bad_range sides start n)) (when (out_of_face p l) OutOfFace ∷ []) ∙
      ap (λ (x : Verdict). or_else x (first (when (out_of_face p l) OutOfFace ∷ []))) e

  -- a cell that passes its tests
  pub within_is : cell_verdict p l (bad_range sides start n) ≡ fine → within_of (asked_shape sides p l start) n ≡ outline_of sides p l start n
  unfolding within_of boundary_verdict boundary_points
  within_is e =
      let s = asked_shape sides p l start in
      let turns = turns_for sides n in
      ap (λ (x : Verdict). boundary_of (or_else x (verdict_to s turns)) (points_to s turns)) (outside_is ∙ sym (reasons_are fine e))

  -- and one that does not
  pub refused_is : (r : Refusal) → cell_verdict p l (bad_range sides start n) ≡ Err r → Err r ≡ outline_of sides p l start n
  unfolding boundary_verdict boundary_points
  refused_is r e =
      let s = asked_shape sides p l start in
      let turns = turns_for sides n in
      ap (λ (x : Verdict). boundary_of (or_else x (verdict_to s turns)) (points_to s turns)) (sym (reasons_are (Err r) e))

-- start and length within their range
pub ranged : (sides start n : ℕ) → bad_range sides start n ≡ false → (start < sides) × (n ≤ sides)
ranged sides start n e =
    let r = neither (leb sides start) (ltb sides n) e in
    (leb-false sides start r.0, ltb-false sides n r.1)

pub turns_few : (sides n : ℕ) → n ≤ sides → turns_for sides n ≤ suc sides
turns_few sides n h = go (eqb n sides)
  where
    go : (b : Bool) → pick b (n + 1) n ≤ suc sides
    go true = omega arith
    go false = omega arith

-- the record says what the reply has
said_is : (v : Verdict) (ps : List BoundaryPoint) → said_boundary (boundary_of v ps) ≡ reply 49 v (boundary_values ps)
unfolding of_bits to_bits
said_is (Ok _) ps = refl
said_is (Err r) ps = refl

pub outline_said : (sides : ℕ) (p : Place) (l start n : ℕ) → said_boundary (outline_of sides p l start n) ≡ boundary_reply sides p l start n
outline_said sides p l start n = said_is (boundary_verdict sides p l start n) (boundary_points sides p l start n)
