-- For hexagons 12 is never given: one crossing lands on the centre's face or over one of its edges. Assumes nothing.
use mathlib.Core.Path.{◌≡◌, refl, sym, ◌∙◌}
use mathlib.Core.Bool.{Bool, true, false, true≢false, not}
use mathlib.Core.Logic.{⊎_elim}
use Prim.Native.Nat.{ℕ, zero, suc, ◌≤◌, ◌<◌}
use native.Mathlib.Nat.{not-suc-le-zero}
use native.Mathlib.Omega.{arith}
use lib.Dec.{ltb, eqb}
use lib.Ieee.Bits.{is_false}
use borrow.Author.Tests.{eq-eqb, ne_eqb, eqb-false}
use Rattle.std.specs.Prelude.{Err}
use Rattle.reply.specs.Choice.{pick}
use Rattle.reply.specs.declared.Refusal.{Refusal}
use Rattle.reply.specs.declared.Refusal.TheVariants.{NotAdjacent, NoCrossing}
use Rattle.level.specs.declared.Grid.{Grid}
use Rattle.level.proofs.Computed.{at}
use Rattle.faceijk.specs.declared.Place.{Place}
use Rattle.faceijk.specs.declared.Landed.{Landed}
use Rattle.faceijk.specs.declared.Overage.{Overage}
use Rattle.faceijk.specs.declared.Overage.TheVariants.{None, FaceEdge}
use Rattle.faceijk.specs.Places.{sum_at}
use Rattle.faceijk.specs.Faces.{face_over, dir_to}
use Rattle.faceijk.specs.Crossing.{edge_out, on_edge, step_out, landed, crossing_of}
use Rattle.faceijk.specs.Entries.{bad_edge}
use Rattle.faceijk.proofs.Faces.{mate_over}
use Rattle.faceijk.proofs.Taking.{edge_range}
use Rattle.faceijk.proofs.Settling.{face_out}
use Rattle.boundary.specs.declared.Shape.{Shape}
use Rattle.boundary.specs.Landing.{substrate_of, corner_place, land_from, vertex_of, land_at}
use Rattle.boundary.specs.CrossingPoints.{away_face, crossing_between, before_at}
use Rattle.boundary.specs.Boundaries.{asked_shape, turns_for, boundary_verdict}
use Rattle.boundary.proofs.Foremost.{tests_below, one_refused}
use Rattle.boundary.proofs.CrossingRefusals.{Fair, none, either, other, fair_hexagon, allowed}
use Rattle.boundary.proofs.CornerFaces.{asked_fit}

-- the direction to the face over an edge is an edge: computed over all faces
abbrev leads : ℕ → ℕ → Bool
leads e f = not (bad_edge (dir_to f (face_over f e)))

edge_good : (e : ℕ) → 1 ≤ e → e ≤ 3 → (f : ℕ) → f < 20 → bad_edge (dir_to f (face_over f e)) ≡ false
edge_good zero l h f on = absurd (not-suc-le-zero l)
edge_good (suc zero) l h f on = is_false _ (at (leads 1) 20 tt f on)
edge_good (suc (suc zero)) l h f on = is_false _ (at (leads 2) 20 tt f on)
edge_good (suc (suc (suc zero))) l h f on = is_false _ (at (leads 3) 20 tt f on)
edge_good (suc (suc (suc (suc e)))) l h f on = absurd (omega arith)

-- a face that is home, or lies over one of its edges
pub data Near (home : ℕ) : ℕ → Type 0 where
  at_home : Near home home
  over_edge : (e : ℕ) → 1 ≤ e → e ≤ 3 → Near home (face_over home e)

-- One crossing lands on the face that it starts from, or on an edge neighbour.
pub crossed_near : (g : Grid) (p : Place) → Near p.face (crossing_of false g p).place.face
unfolding crossing_of
crossed_near g p = go (on_edge g p) (ltb g.limit (sum_at p)) _
  where
    go : (a b : Bool) (x : Overage) → Near p.face (pick a (landed p FaceEdge) (pick b (landed (step_out false g p) x) (landed p None))).place.face
    go true b x = at_home
    go false true x = let e = edge_range p in rw (face_out g p) (over_edge (edge_out p) e.0 e.1)
    go false false x = at_home

land_near : (s : Shape) (k : ℕ) → s.sides ≡ 6 → Near s.cell.centre.face (land_at s k).place.face
unfolding land_at land_from
land_near s k six =
    other (λ (x : Landed). Near s.cell.centre.face x.place.face) (eqb s.sides 5) (ne_eqb s.sides 5 (λ e. omega arith)) _
    (crossed_near (substrate_of s.cell.level) (corner_place s.cell (vertex_of s k)))

-- so between unlike faces the edge asked for is one of the three
away_good : (home last now : ℕ) → home < 20 → Near home last → Near home now → (last ≡ now → ⊥) → bad_edge (dir_to home (away_face home last now)) ≡ false
unfolding away_face
away_good home last now on at_home at_home apart = absurd (apart refl)
away_good home last now on at_home (over_edge e l h) apart = rw (eq-eqb home home refl) (edge_good e l h home on)
away_good home last now on (over_edge e l h) n apart = rw (mate_over e l h home on).other (edge_good e l h home on)

abbrev Thirteen : Refusal → Type 0
Thirteen r = r ≡ NoCrossing

fair_six : (s : Shape) → s.sides ≡ 6 → s.cell.centre.face < 20 → (k : ℕ) → Fair Thirteen (before_at s k)
unfolding before_at crossing_between
fair_six s six on zero = none
fair_six s six on (suc k) =
    either (Fair Thirteen) s.cell.odd
    (other (Fair Thirteen) (eqb s.sides 5) (ne_eqb s.sides 5 (λ e. omega arith)) _
    (fair_hexagon Thirteen refl s.cell (land_at s k) (land_at s (suc k)).place.face (vertex_of s (suc k))
    (λ u bad. absurd (true≢false (sym bad ∙ away_good s.cell.centre.face _ _ on (land_near s k six) (land_near s (suc k) six) (eqb-false _ _ u))))))
    none

-- A hexagon's boundary is never refused with 12.
pub hexagon_never_twelve : (p : Place) (l start n : ℕ) → boundary_verdict 6 p l start n ≡ Err NotAdjacent → ⊥
unfolding boundary_verdict
hexagon_never_twelve p l start n e =
    ⊎_elim
    (λ t. omega (arith, tests_below 6 p l start n NotAdjacent t))
    (λ t.
    let s = asked_shape 6 p l start in
    let on = (asked_fit 6 p l start n (omega arith) (omega arith) t.0).solid.on in
    let z = allowed Thirteen s (fair_six s refl on) (turns_for 6 n) NotAdjacent t.1 in
    let bad : ◌≡◌ {A = ℕ} 0 1 = cc in
    omega arith)
    (one_refused _ _ NotAdjacent e)
