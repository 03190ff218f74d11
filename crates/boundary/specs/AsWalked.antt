-- Definitions in the code's shape, which only inner functions promise: the tests apart, a table by columns, what stands before a corner that is known, the record itself, and what the code's sums ask for. No entry's promise stands on them; DECISIONS names the laws that tie them to the paper's.
use Rattle.reply.specs.declared.Refusal.{Refusal}
use Rattle.std.specs.Prelude.{◌≡◌, Bool, false, List, [], ◌∷◌, ℕ, ◌+◌, ◌*◌, ◌/◌, ◌%◌, ◌^◌, ◌≤◌, ◌<◌, length, eqb, ltb, Ok, Err, Result, Option, None}
use Rattle.reply.specs.Choice.{pick}
use Rattle.reply.specs.declared.Refusal.TheVariants.{OutOfFace}
use Rattle.reply.specs.Replies.{when, first, Verdict}
use Rattle.level.specs.Levels.{bad_grid, limit_of}
use Rattle.coordijk.specs.declared.CoordIJK.{CoordIJK}
use Rattle.faceijk.specs.declared.Place.{Place}
use Rattle.faceijk.specs.declared.Landed.{Landed}
use Rattle.faceijk.specs.Places.{sum_at}
use Rattle.boundary.specs.declared.Shape.{Shape}
use Rattle.boundary.specs.declared.BoundaryPoint.{BoundaryPoint}
use Rattle.boundary.specs.declared.Boundary.{Boundary}
use Rattle.boundary.specs.Corners.{range_reasons, cell_reasons}
use Rattle.boundary.specs.Landing.{substrate_of, vertex_of}
use Rattle.boundary.specs.CrossingPoints.{crossing_between}
use Rattle.boundary.specs.Boundaries.{points_to, or_else, verdict_to, turns_for, boundary_verdict, boundary_points, padded}

-- the tests of a cell, and those that follow face and level
abbrev pub range_verdict : CoordIJK → Bool → Verdict
range_verdict c bad = first (range_reasons c bad)

abbrev pub cell_verdict : Place → ℕ → Bool → Verdict
cell_verdict p l bad = first (cell_reasons p l bad)

-- the hexadecimal digit v of a word, as the code holds a column of the corner offsets
abbrev pub digit_of : ℕ → ℕ → ℕ
digit_of w v = (w / 2 ^ (4 * v)) % 16

-- before the corner of turn k, from the two corners that the walk holds
unfoldable pub before_from : Shape → ℕ → Landed → Landed → Result (Option BoundaryPoint) Refusal
before_from s k last now = pick (eqb k 0) (Ok None) (crossing_between s last now (vertex_of s k))

-- the record itself, which the code makes
abbrev pub boundary_of : Verdict → List BoundaryPoint → Result Boundary Refusal
boundary_of (Ok _) ps = Ok (record { count = length ps; points = padded ps })
boundary_of (Err r) ps = Err r

abbrev pub outline_of : ℕ → Place → ℕ → ℕ → ℕ → Result Boundary Refusal
outline_of sides p l start n = boundary_of (boundary_verdict sides p l start n) (boundary_points sides p l start n)

-- the same of a cell that is on its substrate grid already
abbrev pub outside_verdict : Shape → Verdict
outside_verdict s = first (when (ltb (3 * s.cell.m) (sum_at s.cell.centre)) OutOfFace ∷ [])

unfoldable pub within_of : Shape → ℕ → Result Boundary Refusal
within_of s n =
    let turns = turns_for s.sides n in
    boundary_of (or_else (outside_verdict s) (verdict_to s turns)) (points_to s turns)

-- what the code's sums ask of a shape
pub record Solid (s : Shape) : Type 0 where
  pub on : s.cell.centre.face < 20
  pub level : bad_grid s.cell.level.0 ≡ false
  pub grid : s.cell.grid ≡ substrate_of s.cell.level
  pub limit : s.cell.m ≡ limit_of s.cell.level.0 false
  pub some : 0 < s.cell.m
  pub low : s.cell.m ≤ 11529602
  pub many : 5 ≤ s.sides
  pub few : s.sides ≤ 6
  pub begun : s.start < s.sides

-- with the centre on its face
pub record Fit (s : Shape) : Type 0 where
  pub solid : Solid s
  pub near : sum_at s.cell.centre ≤ 3 * s.cell.m

-- a hexagon whose centre is so far within the limit that every corner is
pub record Deep (s : Shape) : Type 0 where
  pub fit : Fit s
  pub deep : sum_at s.cell.centre + 9 < 3 * s.cell.m
  pub hexagon : s.sides ≡ 6

-- what the code's sums ask of a triple: no coordinate above n
pub record Upto (n : ℕ) (c : CoordIJK) : Type 0 where
  pub i_upto : c.i ≤ n
  pub j_upto : c.j ≤ n
  pub k_upto : c.k ≤ n
