-- The boundary of a cell: the points of its turns in their order, the record that holds them, and the entries in the paper's numbers.
use Rattle.reply.specs.declared.Refusal.{Refusal}
use Rattle.std.specs.Prelude.{Bool, true, ◌||◌, List, [], ◌∷◌, ◌++◌, ℕ, zero, suc, ◌+◌, ◌-◌, length, replicate, eqb, ltb, leb, Ok, Err, Result, Option, Some, None}
use Rattle.std.specs.Float.{binary64}
use Rattle.std.specs.Float.Ieee.{to_bits}
use Rattle.reply.specs.Choice.{pick}
use Rattle.reply.specs.declared.Refusal.TheVariants.{OutOfFace}
use Rattle.reply.specs.Replies.{Reason, when, first, Reply, said, reply, Verdict, fine}
use Rattle.double.specs.Double.{nought}
use Rattle.level.specs.Levels.{raised_of, limit_of}
use Rattle.coordijk.specs.Coordinates.{sum_of}
use Rattle.faceijk.specs.declared.Place.{Place}
use Rattle.faceijk.specs.Places.{coord_of}
use Rattle.boundary.specs.declared.Shape.{Shape}
use Rattle.boundary.specs.declared.BoundaryPoint.{BoundaryPoint}
use Rattle.boundary.specs.declared.Boundary.{Boundary}
use Rattle.boundary.specs.Corners.{class_iii, through_apertures, cell_reasons}
use Rattle.boundary.specs.Landing.{cell_of, shape_of, land_at}
use Rattle.boundary.specs.CrossingPoints.{corner_point, before_at}

-- the points of turn k: the crossing point before its corner, if there is one, and the corner; a turn past all corners only looks for a crossing point on the last edge
abbrev pub points_before : Result (Option BoundaryPoint) Refusal → List BoundaryPoint
points_before (Ok None) = []
points_before (Ok (Some p)) = p ∷ []
points_before (Err r) = []

abbrev pub corners_in : Shape → ℕ → List BoundaryPoint
corners_in s k = pick (ltb k s.sides) (corner_point (land_at s k).place ∷ []) []

unfoldable pub points_in : Shape → ℕ → List BoundaryPoint
points_in s k = points_before (before_at s k) ++ corners_in s k

-- the points of the first k turns
unfoldable pub points_to : Shape → ℕ → List BoundaryPoint
points_to s zero = []
points_to s (suc k) = points_to s k ++ points_in s k

-- how many of them are crossing points
unfoldable pub crossings_to : Shape → ℕ → ℕ
crossings_to s zero = 0
crossings_to s (suc k) = crossings_to s k + length (points_before (before_at s k))

-- the refusal of the first crossing point needed, 12 or 13, in the first k turns
abbrev pub or_else : Verdict → Verdict → Verdict
or_else (Ok _) v = v
or_else (Err r) v = Err r

abbrev pub verdict_before : Result (Option BoundaryPoint) Refusal → Verdict
verdict_before (Ok None) = fine
verdict_before (Ok (Some p)) = fine
verdict_before (Err r) = Err r

unfoldable pub verdict_to : Shape → ℕ → Verdict
verdict_to s zero = fine
verdict_to s (suc k) = or_else (verdict_to s k) (verdict_before (before_at s k))

-- a full length makes one more turn
abbrev pub turns_for : ℕ → ℕ → ℕ
turns_for sides n = pick (eqb n sides) (n + 1) n

-- BadRange: hexagon start above 5 or length above 6; pentagon 4 and 5
abbrev pub bad_range : ℕ → ℕ → ℕ → Bool
bad_range sides start n = leb sides start || ltb sides n

-- OutOfFace: boundary centre, after the apertures, has s above 3·2·7^(grid level/2)
abbrev pub out_of_face : Place → ℕ → Bool
out_of_face p l = ltb (limit_of (raised_of l) true) (sum_of (through_apertures (class_iii l) (coord_of p)))

abbrev pub boundary_reasons : ℕ → Place → ℕ → ℕ → ℕ → List Reason
boundary_reasons sides p l start n =
    cell_reasons p l (bad_range sides start n) ++ when (out_of_face p l) OutOfFace ∷ []

abbrev pub asked_shape : ℕ → Place → ℕ → ℕ → Shape
asked_shape sides p l start = shape_of sides (cell_of p l) start

unfoldable pub boundary_verdict : ℕ → Place → ℕ → ℕ → ℕ → Verdict
boundary_verdict sides p l start n =
    or_else (first (boundary_reasons sides p l start n)) (verdict_to (asked_shape sides p l start) (turns_for sides n))

unfoldable pub boundary_points : ℕ → Place → ℕ → ℕ → ℕ → List BoundaryPoint
boundary_points sides p l start n = points_to (asked_shape sides p l start) (turns_for sides n)

-- the record: a count and room for twelve points; unused points are zero
unfoldable pub room_with : {A : Type 0} → A → List A → List A
room_with unused ps = ps ++ replicate (12 - length ps) unused

abbrev pub no_point : BoundaryPoint
no_point = record { face = 0; x = nought; y = nought; mark = 0 }

abbrev pub padded : List BoundaryPoint → List BoundaryPoint
padded ps = room_with no_point ps

abbrev pub point_values : BoundaryPoint → List ℕ
point_values p = p.face ∷ to_bits binary64 p.x ∷ to_bits binary64 p.y ∷ p.mark ∷ []

abbrev pub points_values : List BoundaryPoint → List ℕ
points_values [] = []
points_values (p ∷ ps) = point_values p ++ points_values ps

-- the entries, in the paper's numbers: the count, then face, x, y and mark of each of the twelve points
abbrev pub said_boundary : Result Boundary Refusal → Reply
said_boundary = said 49 (λ b. b.count ∷ points_values b.points)

abbrev pub boundary_values : List BoundaryPoint → List ℕ
boundary_values ps = length ps ∷ points_values (padded ps)

abbrev pub boundary_reply : ℕ → Place → ℕ → ℕ → ℕ → Reply
boundary_reply sides p l start n = reply 49 (boundary_verdict sides p l start n) (boundary_values (boundary_points sides p l start n))
