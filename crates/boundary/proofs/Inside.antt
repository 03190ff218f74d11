-- A hexagon deep inside its face: its corners stay where they are, and no crossing point is looked for. Assumes nothing.
use mathlib.Core.Path.{◌≡◌, refl, sym, ap, ◌∙◌}
use mathlib.Core.Bool.{Bool, true, false}
use mathlib.Core.List.{List}
use Prim.Native.Nat.{ℕ, zero, suc, ◌+◌, ◌≤◌, ◌<◌}
use native.Mathlib.Decide.{ℕ_discrete}
use native.Mathlib.Numerals.{add-one}
use native.Mathlib.Omega.{arith}
use lib.Dec.{eqb, leb, leb→le}
use borrow.Author.Tests.{eq-eqb, ne_eqb}
use Rattle.std.specs.Prelude.{Ok, None}
use Rattle.reply.specs.Choice.{pick}
use Rattle.level.proofs.Computed.{at}
use Rattle.coordijk.specs.Coordinates.{sum_of}
use Rattle.coordijk.proofs.Reducing.{reduced_low}
use Rattle.faceijk.specs.declared.Landed.{Landed}
use Rattle.faceijk.specs.declared.Overage.{Overage}
use Rattle.faceijk.specs.Places.{sum_at}
use Rattle.faceijk.specs.Crossing.{landed}
use Rattle.boundary.specs.declared.Shape.{Shape}
use Rattle.boundary.specs.declared.BoundaryPoint.{BoundaryPoint}
use Rattle.boundary.specs.Corners.{offset_of, corner_of}
use Rattle.boundary.specs.Landing.{substrate_of, corner_place, vertex_of, land_at}
use Rattle.boundary.specs.CrossingPoints.{hexagon_crossing, pentagon_crossing, crossing_between, before_at}
use Rattle.boundary.specs.Boundaries.{turns_for, points_to, verdict_to}
use Rattle.boundary.specs.AsWalked.{boundary_of, Deep}
use Rattle.boundary.proofs.Cells.{substrate_limit}
use Rattle.boundary.proofs.Landing.{vertex_low}
use Rattle.boundary.proofs.Staying.{stays_put}
use Rattle.boundary.proofs.Walking.{Walking, with_none, past_corners, ended}

-- no offset has a sum above 9
offset_sum : (odd : Bool) (v : ℕ) → v < 6 → sum_of (offset_of odd v) ≤ 9
offset_sum true v h = leb→le _ _ (at (λ (k : ℕ). leb (sum_of (offset_of true k)) 9) 6 tt v h)
offset_sum false v h = leb→le _ _ (at (λ (k : ℕ). leb (sum_of (offset_of false k)) 9) 6 tt v h)

module _ (s : Shape) (d : Deep s) where
  corner_near : (v : ℕ) → v < 6 → sum_at (corner_place s.cell v) < (substrate_of s.cell.level).limit
  unfolding corner_of
  corner_near v h =
      let c = s.cell.centre in
      let o = offset_of s.cell.odd v in
      let w = reduced_low (c.i + o.i) (c.j + o.j) (c.k + o.k) in
      omega (arith, w, offset_sum s.cell.odd v h, d.deep, d.fit.solid.limit, substrate_limit s.cell.level.0)

  -- each corner stays
  pub stays_at : (k : ℕ) → landed (corner_place s.cell (vertex_of s k)) Overage.None ≡ land_at s k
  unfolding land_at
  stays_at k = stays_put (substrate_of s.cell.level) (corner_place s.cell (vertex_of s k)) (corner_near (vertex_of s k) (vertex_low s k d.fit.solid)) s.sides

  at_home : (k : ℕ) → (land_at s k).place.face ≡ s.cell.centre.face
  at_home k = ap (λ (l : Landed). l.place.face) (sym (stays_at k))

  -- between two corners on one face there is nothing
  between_none : (last now : Landed) (v : ℕ) → last.place.face ≡ now.place.face → crossing_between s last now v ≡ Ok None
  unfolding crossing_between hexagon_crossing
  between_none last now v e = go s.cell.odd
    where
      go : (b : Bool) → pick b (pick (eqb s.sides 5) (pentagon_crossing s.cell last.place now.place) (hexagon_crossing s.cell last now.place.face v)) (Ok None) ≡ Ok None
      go true = rw (ne_eqb s.sides 5 (λ z. omega (arith, d.hexagon)), eq-eqb last.place.face now.place.face e)
      go false = refl

  pub none_before : (k : ℕ) → before_at s k ≡ Ok None
  unfolding before_at
  none_before zero = refl
  none_before (suc k) = between_none (land_at s k) (land_at s (suc k)) _ (at_home k ∙ sym (at_home (suc k)))

  -- the turn past all corners adds nothing
  pub full : (points : List BoundaryPoint) (count : ℕ) (last : Landed) (n : ℕ) → Walking s points count last n → n ≤ s.sides → Ok (record { count = count; points = points }) ≡ boundary_of (verdict_to s (turns_for s.sides n)) (points_to s (turns_for s.sides n))
  full points count last n w h =
      elim (ℕ_discrete n s.sides) [
        | yes e ↦
            let past = past_corners s points count n (with_none s points count last n w (none_before n)) (land_at s n) refl (omega arith) in
            let turns : turns_for s.sides n ≡ suc n = simp (eq-eqb n s.sides e, add-one) in
            rw turns (ended s points count (land_at s n) (suc n) past)
        | no e ↦
            let turns : turns_for s.sides n ≡ n = simp (ne_eqb n s.sides e) in
            rw turns (ended s points count last n w)
      ]
