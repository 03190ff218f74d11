-- The boundary of a cell on the sphere. Document 02, §1: the plane boundary point by point, each point by the rule of one point.
use Rattle.reply.specs.declared.Refusal.{Refusal}
use Rattle.std.specs.Prelude.{List, [], ◌∷◌, ◌++◌, map, ℕ, zero, suc, length, ltb, Float, Ok, Err, Result, Option, Some, None}
use Rattle.std.specs.Float.{binary64}
use Rattle.std.specs.Float.Ieee.{to_bits}
use Rattle.reply.specs.Choice.{pick}
use Rattle.reply.specs.declared.Refusal.TheVariants.{BadFrame}
use Rattle.reply.specs.Replies.{Reason, when, first, Reply, said, reply, Verdict, fine}
use Rattle.double.specs.Double.{nought}
use Rattle.level.specs.Levels.{raised_of}
use Rattle.faceijk.specs.declared.Place.{Place}
use Rattle.vec2d.specs.Points.{point}
use Rattle.vec3d.specs.declared.Vec3d.{Vec3d}
use Rattle.vec3d.specs.Frame.{face_at, bad_frame}
use Rattle.boundary.specs.declared.Shape.{Shape}
use Rattle.boundary.specs.declared.BoundaryPoint.{BoundaryPoint}
use Rattle.boundary.specs.Landing.{land_at}
use Rattle.boundary.specs.CrossingPoints.{corner_point, before_at}
use Rattle.boundary.specs.Boundaries.{or_else, turns_for, boundary_reasons, asked_shape, boundary_points, room_with}
use Rattle.globe.specs.declared.Outline.{Outline}
use Rattle.globe.specs.declared.Outline.TheVariants.{Hexagon, Pentagon}
use Rattle.globe.specs.declared.SpherePoint.{SpherePoint}
use Rattle.globe.specs.declared.SphereBoundary.{SphereBoundary}
use Rattle.globe.specs.Points.{scale_of, sphere_of, lift_verdict}

abbrev pub sides_of : Outline → ℕ
sides_of Hexagon = 6
sides_of Pentagon = 5

-- the image of a point of the plane boundary, by the rule of one point: it keeps its face and its mark
abbrev pub with_vector : ℕ → ℕ → Vec3d → SpherePoint
with_vector f mark v = record { face = f; mark = mark; x = v.x; y = v.y; z = v.z }

unfoldable pub image_of : List Float → Float → BoundaryPoint → SpherePoint
image_of s scale p = with_vector p.face p.mark (sphere_of (face_at s p.face) scale (point p.x p.y))

-- what is said of its projection: 6 or 8
abbrev pub image_verdict : List Float → Float → BoundaryPoint → Verdict
image_verdict s scale p = lift_verdict (face_at s p.face) scale (point p.x p.y)

-- what is said of a point that is needed: its own 12 or 13, or what is said of its projection
abbrev pub needed_verdict : List Float → Float → Result (Option BoundaryPoint) Refusal → Verdict
needed_verdict s scale (Ok None) = fine
needed_verdict s scale (Ok (Some p)) = image_verdict s scale p
needed_verdict s scale (Err r) = Err r

-- the points of turn k in order: what stands before its corner, and the corner; a turn past all corners has none
abbrev pub corner_in : Shape → ℕ → Place → Result (Option BoundaryPoint) Refusal
corner_in s k landing = pick (ltb k s.sides) (Ok (Some (corner_point landing))) (Ok None)

unfoldable pub needed_to : Shape → ℕ → List (Result (Option BoundaryPoint) Refusal)
needed_to s zero = []
needed_to s (suc k) = needed_to s k ++ (before_at s k ∷ corner_in s k (land_at s k).place ∷ [])

-- the points are taken in order, and the first one that is refused refuses the boundary
abbrev pub first_refused : List Float → Float → List (Result (Option BoundaryPoint) Refusal) → Verdict
first_refused s scale [] = fine
first_refused s scale (b ∷ bs) = or_else (needed_verdict s scale b) (first_refused s scale bs)

-- BadFrame, then the reasons of the plane boundary
abbrev pub globe_reasons : ℕ → List Float → Place → ℕ → ℕ → ℕ → List Reason
globe_reasons sides s p l start n = when (bad_frame s) BadFrame ∷ boundary_reasons sides p l start n

unfoldable pub globe_verdict : ℕ → List Float → Place → ℕ → ℕ → ℕ → Verdict
globe_verdict sides s p l start n =
    or_else (first (globe_reasons sides s p l start n))
    (first_refused s (scale_of (raised_of l)) (needed_to (asked_shape sides p l start) (turns_for sides n)))

-- the plane boundary, point by point its image
unfoldable pub globe_points : ℕ → List Float → Place → ℕ → ℕ → ℕ → List SpherePoint
globe_points sides s p l start n = map (image_of s (scale_of (raised_of l))) (boundary_points sides p l start n)

-- the record: a count and room for twelve points; unused points are zero
abbrev pub no_sphere_point : SpherePoint
no_sphere_point = record { face = 0; mark = 0; x = nought; y = nought; z = nought }

abbrev pub sphere_point_values : SpherePoint → List ℕ
sphere_point_values p = p.face ∷ to_bits binary64 p.x ∷ to_bits binary64 p.y ∷ to_bits binary64 p.z ∷ p.mark ∷ []

abbrev pub sphere_points_values : List SpherePoint → List ℕ
sphere_points_values [] = []
sphere_points_values (p ∷ ps) = sphere_point_values p ++ sphere_points_values ps

-- the entry, in the paper's numbers: the count, then face, x, y, z and mark of each of the twelve points
abbrev pub said_globe : Result SphereBoundary Refusal → Reply
said_globe = said 61 (λ b. b.count ∷ sphere_points_values b.points)

abbrev pub globe_values : List SpherePoint → List ℕ
globe_values ps = length ps ∷ sphere_points_values (room_with no_sphere_point ps)

abbrev pub globe_reply : ℕ → List Float → Place → ℕ → ℕ → ℕ → Reply
globe_reply sides s p l start n = reply 61 (globe_verdict sides s p l start n) (globe_values (globe_points sides s p l start n))
