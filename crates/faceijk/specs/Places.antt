-- A place of document 01: a face 0..19 and coordinates i, j, k; and which places an entry takes.
use Rattle.reply.specs.declared.Refusal.{Refusal}
use Rattle.std.specs.Prelude.{Bool, ◌&&◌, List, [], ◌∷◌, ℕ, ◌≤◌, ◌<◌, eqb, ltb, Ok, Err, Result}
use Rattle.reply.specs.declared.Refusal.TheVariants.{BadFace, BadLevel, BadRange, NotReduced}
use Rattle.reply.specs.Replies.{Reason, when, first, Verdict}
use Rattle.level.specs.Levels.{bad_grid}
use Rattle.level.specs.declared.Grid.{Grid}
use Rattle.coordijk.specs.declared.CoordIJK.{CoordIJK}
use Rattle.coordijk.specs.Coordinates.{coord, not_reduced, Taken, sum_of, Q}
use Rattle.faceijk.specs.declared.Place.{Place}

abbrev pub place : ℕ → CoordIJK → Place
place f c = record { face = f; i = c.i; j = c.j; k = c.k }

abbrev pub coord_of : Place → CoordIJK
coord_of p = coord p.i p.j p.k

abbrev pub place_values : Place → List ℕ
place_values p = p.face ∷ p.i ∷ p.j ∷ p.k ∷ []

-- one face and one coordinate each
abbrev pub same_place : Place → Place → Bool
same_place p q = eqb p.face q.face && eqb p.i q.i && eqb p.j q.j && eqb p.k q.k

-- s, the coordinate sum, and Q, the squared distance from the face's centre
abbrev pub sum_at : Place → ℕ
sum_at p = sum_of (coord_of p)

abbrev pub QAt : Place → ℕ
QAt p = Q (coord_of p)

-- a place that is taken
pub record Okay (p : Place) : Type 0 where
  pub on : p.face < 20
  pub taken : Taken (coord_of p)

-- BadFace: face above 19
abbrev pub bad_face : ℕ → Bool
bad_face f = ltb 19 f

-- why a place may be refused; one on a grid; and one on a grid where an edge is named too
abbrev pub place_reasons : Place → List Reason
place_reasons p = when (bad_face p.face) BadFace ∷ when (not_reduced (coord_of p)) NotReduced ∷ []

abbrev pub on_grid_reasons : Place → ℕ → List Reason
on_grid_reasons p l =
    when (bad_face p.face) BadFace ∷ when (bad_grid l) BadLevel ∷ when (not_reduced (coord_of p)) NotReduced ∷ []

abbrev pub edge_reasons : Place → Bool → List Reason
edge_reasons p bad_edge = when bad_edge BadRange ∷ when (not_reduced (coord_of p)) NotReduced ∷ []

abbrev pub over_edge_reasons : Place → ℕ → Bool → List Reason
over_edge_reasons p l bad_edge = when (bad_face p.face) BadFace ∷ when (bad_grid l) BadLevel ∷ edge_reasons p bad_edge

abbrev pub place_verdict : Place → Verdict
place_verdict p = first (place_reasons p)

abbrev pub on_grid_verdict : Place → ℕ → Verdict
on_grid_verdict p l = first (on_grid_reasons p l)

abbrev pub edge_verdict : Place → Bool → Verdict
edge_verdict p bad_edge = first (edge_reasons p bad_edge)

abbrev pub over_edge_verdict : Place → ℕ → Bool → Verdict
over_edge_verdict p l bad_edge = first (over_edge_reasons p l bad_edge)

-- what the tests of an entry on a grid leave
abbrev pub on_grid_of : Verdict → Grid → Result Grid Refusal
on_grid_of (Ok _) g = Ok g
on_grid_of (Err r) g = Err r

-- what the code's sums ask of a place
pub record Ready (p : Place) : Type 0 where
  pub i_small : p.i ≤ 536870912
  pub j_small : p.j ≤ 536870912
  pub k_small : p.k ≤ 536870912
