-- Crossing points: where the line between two corners meets an edge of a face. Document 01, "Corners and boundary"; `hexagon_boundary` and `pentagon_boundary` of the source.
use Rattle.reply.specs.declared.Refusal.{Refusal}
use Rattle.std.specs.Prelude.{Bool, true, false, ◌||◌, ℕ, zero, suc, ◌+◌, ◌%◌, pos, eqb, Float, Ok, Err, Result, Option, Some, None}
use Rattle.std.specs.Float.{binary64}
use Rattle.std.specs.Float.Ieee.{mul, neg, of_int}
use Rattle.reply.specs.Choice.{pick}
use Rattle.reply.specs.declared.Refusal.TheVariants.{NotAdjacent}
use Rattle.double.specs.Double.{nought, one_and_half, three, sin60}
use Rattle.vec2d.specs.declared.Vec2d.{Vec2d}
use Rattle.vec2d.specs.declared.Line.{Line}
use Rattle.vec2d.specs.Points.{point}
use Rattle.vec2d.specs.Centre.{centre_of}
use Rattle.vec2d.specs.Meeting.{met_of, crossing_of}
use Rattle.vec2d.specs.Closeness.{close}
use Rattle.faceijk.specs.declared.Place.{Place}
use Rattle.faceijk.specs.declared.Landed.{Landed}
use Rattle.faceijk.specs.declared.Overage.{Overage}
use Rattle.faceijk.specs.declared.Overage.TheVariants.{FaceEdge, NewFace}
use Rattle.faceijk.specs.Places.{coord_of}
use Rattle.faceijk.specs.Faces.{dir_to}
use Rattle.faceijk.specs.Steps.{step_of}
use Rattle.faceijk.specs.Entries.{bad_edge}
use Rattle.boundary.specs.declared.Cell.{Cell}
use Rattle.boundary.specs.declared.Shape.{Shape}
use Rattle.boundary.specs.declared.BoundaryPoint.{BoundaryPoint}
use Rattle.boundary.specs.Corners.{corner_of}
use Rattle.boundary.specs.Landing.{substrate_of, vertex_of, land_at}

-- a corner's mark is 1, a crossing point's 2, an unused point's 0
abbrev pub a_corner : ℕ
a_corner = 1

abbrev pub a_crossing : ℕ
a_crossing = 2

abbrev pub point_on : ℕ → Vec2d → ℕ → BoundaryPoint
point_on f v mark = record { face = f; x = v.x; y = v.y; mark = mark }

-- a corner's point lies on the face where the corner landed
abbrev pub corner_point : Place → BoundaryPoint
corner_point p = point_on p.face (centre_of (coord_of p)) a_corner

-- the ends v0, v1, v2 of a face's edges on the substrate grid, m being the limit of the plain grid
abbrev pub v0 : Float → Vec2d
v0 m = point (mul binary64 three m) nought

abbrev pub v1 : Float → Vec2d
v1 m = point (mul binary64 (neg one_and_half) m) (mul binary64 (mul binary64 three sin60) m)

abbrev pub v2 : Float → Vec2d
v2 m = point (mul binary64 (neg one_and_half) m) (mul binary64 (mul binary64 (neg three) sin60) m)

abbrev pub line : Vec2d → Vec2d → Line
line a b = record { from = a; to = b }

-- the edge in the direction d: 1 IJ, 2 KI, 3 JK
unfoldable pub edge_line : ℕ → Float → Line
edge_line d m = pick (eqb d 1) (line (v0 m) (v1 m)) (pick (eqb d 2) (line (v2 m) (v0 m)) (line (v1 m) (v2 m)))

-- the point met, on the face that it is projected with
abbrev pub pointed : ℕ → Result Vec2d Refusal → Result (Option BoundaryPoint) Refusal
pointed f (Ok v) = Ok (Some (point_on f v a_crossing))
pointed f (Err r) = Err r

-- where the line from a to b meets the edge of face f in the direction d. NotAdjacent: a direction needed for a crossing point is 0 or 7
unfoldable pub cross_at : ℕ → ℕ → Vec2d → Vec2d → ℕ → Result (Option BoundaryPoint) Refusal
cross_at m f a b d =
    pick (bad_edge d) (Err NotAdjacent) (pointed f (met_of (crossing_of (line a b) (edge_line d (of_int binary64 (pos m))))))

-- no point where it equals one of the two corners
abbrev pub unless_corner : Vec2d → Vec2d → Result (Option BoundaryPoint) Refusal → Result (Option BoundaryPoint) Refusal
unless_corner a b (Ok None) = Ok None
unless_corner a b (Ok (Some p)) = pick (close a (point p.x p.y) || close b (point p.x p.y)) (Ok None) (Ok (Some p))
unless_corner a b (Err r) = Err r

abbrev pub is_face_edge : Overage → Bool
is_face_edge FaceEdge = true
is_face_edge Overage.None = false
is_face_edge NewFace = false

-- hexagons: one between two corners on unlike faces, where the first did not land on a face's edge. Both are taken on the centre's face `home`,
-- and the edge is that between home and the other of the two faces, or the first of them where neither is home
unfoldable pub away_face : ℕ → ℕ → ℕ → ℕ
away_face home last now = pick (eqb last home) now last

abbrev pub edge_crossing : Cell → ℕ → ℕ → Result (Option BoundaryPoint) Refusal
edge_crossing c away v =
    let home = c.centre.face in
    let a = centre_of (corner_of c.odd (coord_of c.centre) ((v + 5) % 6)) in
    let b = centre_of (corner_of c.odd (coord_of c.centre) v) in
    unless_corner a b (cross_at c.m home a b (dir_to home away))

unfoldable pub hexagon_crossing : Cell → Landed → ℕ → ℕ → Result (Option BoundaryPoint) Refusal
hexagon_crossing c last now v =
    pick (eqb last.place.face now) (Ok None)
    (pick (is_face_edge last.overage) (Ok None) (edge_crossing c (away_face c.centre.face last.place.face now) v))

-- pentagons: one between any two corners. The second is stepped over to the face of the first, and the edge is that back to its own
unfoldable pub taken_over : Cell → Place → ℕ → Place → Result (Option BoundaryPoint) Refusal
taken_over c last now over = cross_at c.m over.face (centre_of (coord_of last)) (centre_of (coord_of over)) (dir_to over.face now)

unfoldable pub pentagon_crossing : Cell → Place → Place → Result (Option BoundaryPoint) Refusal
pentagon_crossing c last now =
    let d = dir_to now.face last.face in
    pick (bad_edge d) (Err NotAdjacent) (taken_over c last now.face (step_of now d (substrate_of c.level).unit))

-- between two corners that follow one another, the second of them v: nothing for Class II cells
unfoldable pub crossing_between : Shape → Landed → Landed → ℕ → Result (Option BoundaryPoint) Refusal
crossing_between s last now v =
    pick s.cell.odd
    (pick (eqb s.sides 5) (pentagon_crossing s.cell last.place now.place) (hexagon_crossing s.cell last now.place.face v))
    (Ok None)

-- before the corner of turn k: nothing before the first
unfoldable pub before_at : Shape → ℕ → Result (Option BoundaryPoint) Refusal
before_at s zero = Ok None
before_at s (suc k) = crossing_between s (land_at s k) (land_at s (suc k)) (vertex_of s (suc k))
