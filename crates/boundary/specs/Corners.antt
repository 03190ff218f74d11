-- The corners of a cell: document 01, "Corners and boundary", first half.
use Rattle.std.specs.Prelude.{Bool, List, [], ◌∷◌, ◌++◌, ℕ, ◌+◌, ◌%◌, eqb, get_or, Result}
use Rattle.reply.specs.Choice.{pick}
use Rattle.reply.specs.declared.Refusal.{Refusal}
use Rattle.reply.specs.declared.Refusal.TheVariants.{BadFace, BadLevel, BadRange, NotReduced}
use Rattle.reply.specs.Replies.{Reason, when, first, Reply, said, reply, Verdict}
use Rattle.level.specs.Levels.{bad_cell, raised_of}
use Rattle.coordijk.specs.declared.CoordIJK.{CoordIJK}
use Rattle.coordijk.specs.declared.GridMap.TheVariants.{Aperture3Ccw, Aperture3Cw, Aperture7Cw}
use Rattle.coordijk.specs.Coordinates.{coord, reduced, not_reduced, coord_values}
use Rattle.coordijk.specs.Maps.{map_of}
use Rattle.faceijk.specs.declared.Place.{Place}
use Rattle.faceijk.specs.Places.{coord_of, bad_face}
use Rattle.boundary.specs.declared.Corners.{Corners}

-- an odd cell level is Class III
abbrev pub class_iii : ℕ → Bool
class_iii l = eqb (l % 2) 1

-- the centre goes through aperture 3 CCW, then CW; for an odd cell level also aperture 7 CW
unfoldable pub through_apertures : Bool → CoordIJK → CoordIJK
through_apertures odd c =
    let q = map_of Aperture3Cw (map_of Aperture3Ccw c) in
    pick odd (map_of Aperture7Cw q) q

-- the six corner offsets
abbrev pub verts_ii : List CoordIJK
verts_ii = coord 2 1 0 ∷ coord 1 2 0 ∷ coord 0 2 1 ∷ coord 0 1 2 ∷ coord 1 0 2 ∷ coord 2 0 1 ∷ []

abbrev pub verts_iii : List CoordIJK
verts_iii = coord 5 4 0 ∷ coord 1 5 0 ∷ coord 0 5 4 ∷ coord 0 1 5 ∷ coord 4 0 5 ∷ coord 5 0 1 ∷ []

abbrev pub offset_of : Bool → ℕ → CoordIJK
offset_of odd v = get_or (pick odd verts_iii verts_ii) v (coord 0 0 0)

abbrev pub shifted_by : CoordIJK → CoordIJK → CoordIJK
shifted_by c o = reduced (c.i + o.i) (c.j + o.j) (c.k + o.k)

-- the corner v of a cell whose centre lies at c after the apertures
unfoldable pub corner_of : Bool → CoordIJK → ℕ → CoordIJK
corner_of odd c v = shifted_by c (offset_of odd v)

unfoldable pub six_corners : Bool → CoordIJK → List CoordIJK
six_corners odd c =
    corner_of odd c 0 ∷ corner_of odd c 1 ∷ corner_of odd c 2 ∷ corner_of odd c 3 ∷ corner_of odd c 4 ∷ corner_of odd c 5 ∷ []

abbrev pub corners_at : CoordIJK → ℕ → List CoordIJK
corners_at c l = six_corners (class_iii l) (through_apertures (class_iii l) c)

-- the entry, in the paper's numbers: the grid level, then i, j, k of each corner. A pentagon takes the first five
abbrev pub corners_reasons : Place → ℕ → List Reason
corners_reasons p l = when (bad_face p.face) BadFace ∷ when (bad_cell l) BadLevel ∷ when (not_reduced (coord_of p)) NotReduced ∷ []

abbrev pub corners_verdict : Place → ℕ → Verdict
corners_verdict p l = first (corners_reasons p l)

abbrev pub coords_values : List CoordIJK → List ℕ
coords_values [] = []
coords_values (c ∷ cs) = coord_values c ++ coords_values cs

abbrev pub corners_values : Corners → List ℕ
corners_values r = r.level.0 ∷ coords_values r.corners

abbrev pub said_corners : Result Corners Refusal → Reply
said_corners = said 19 corners_values

abbrev pub corners_reply : Place → ℕ → Reply
corners_reply p l = reply 19 (corners_verdict p l) (raised_of l ∷ coords_values (corners_at (coord_of p) l))

-- the same with what is said of a range between, as boundaries ask it too
abbrev pub range_reasons : CoordIJK → Bool → List Reason
range_reasons c bad = when bad BadRange ∷ when (not_reduced c) NotReduced ∷ []

abbrev pub cell_reasons : Place → ℕ → Bool → List Reason
cell_reasons p l bad = when (bad_face p.face) BadFace ∷ when (bad_cell l) BadLevel ∷ range_reasons (coord_of p) bad
