-- Definitions in the code's shape, which only inner functions promise: a length by its one test, a point's image, the record itself. No entry's promise stands on
-- them; DECISIONS names the laws that tie them to the paper's.
use Rattle.reply.specs.Replies.{Verdict}
use Rattle.std.specs.Prelude.{List, map, ℕ, ◌<◌, length, pos, Float, Ok, Err, Result, Option, Some, None}
use Rattle.std.specs.Float.{binary64}
use Rattle.std.specs.Float.Ieee.{lt, of_int}
use Rattle.reply.specs.Choice.{pick}
use Rattle.reply.specs.declared.Refusal.{Refusal}
use Rattle.reply.specs.declared.Refusal.TheVariants.{BadNumber, Behind}
use Rattle.double.specs.Double.{quarter, finite}
use Rattle.vec2d.specs.declared.Vec2d.{Vec2d}
use Rattle.vec3d.specs.declared.Vec3d.{Vec3d}
use Rattle.vec3d.specs.declared.FaceAxes.{FaceAxes}
use Rattle.root.specs.Root.{root_of}
use Rattle.boundary.specs.declared.Shape.{Shape}
use Rattle.boundary.specs.declared.BoundaryPoint.{BoundaryPoint}
use Rattle.boundary.specs.Boundaries.{or_else, points_to, turns_for, room_with}
use Rattle.boundary.specs.AsWalked.{outside_verdict}
use Rattle.globe.specs.declared.SpherePoint.{SpherePoint}
use Rattle.globe.specs.declared.SphereBoundary.{SphereBoundary}
use Rattle.globe.specs.Points.{vector, divided_by, sphere_of, lift_verdict}
use Rattle.globe.specs.Boundaries.{with_vector, image_of, image_verdict, needed_to, first_refused, no_sphere_point}

-- a length by the squared length, whose one test stands for all three of a bad point
unfoldable pub length_of : Float → Result Float Refusal
length_of q = pick (finite q) (pick (lt q quarter) (Err Behind) (Ok (root_of q))) (Err BadNumber)

abbrev pub lifted_by : Verdict → Vec3d → Result Vec3d Refusal
lifted_by (Ok _) v = Ok v
lifted_by (Err r) v = Err r

abbrev pub lifted_of : FaceAxes → Float → Vec2d → Result Vec3d Refusal
lifted_of a scale p = lifted_by (lift_verdict a scale p) (sphere_of a scale p)

abbrev pub imaged_by : Verdict → SpherePoint → Result SpherePoint Refusal
imaged_by (Ok _) p = Ok p
imaged_by (Err r) p = Err r

abbrev pub imaged_of : List Float → Float → BoundaryPoint → Result SpherePoint Refusal
imaged_of s scale p = imaged_by (image_verdict s scale p) (image_of s scale p)

-- a point with its vector divided by a length
abbrev pub over_of : Float → SpherePoint → SpherePoint
over_of l p = with_vector p.face p.mark (divided_by l (vector p.x p.y p.z))

-- a point that is needed lies on one of the twenty faces, whose axes its image asks for
pub data OnFace : Result (Option BoundaryPoint) Refusal → Type 0 where
  none : OnFace (Ok None)
  there : {p : BoundaryPoint} → p.face < 20 → OnFace (Ok (Some p))
  unmet : {r : Refusal} → OnFace (Err r)

-- the record itself, which the code makes
abbrev pub globe_of : Verdict → List SpherePoint → Result SphereBoundary Refusal
globe_of (Ok _) ps = Ok (record { count = length ps; points = room_with no_sphere_point ps })
globe_of (Err r) ps = Err r

-- so many turns round a shape, by the scale of its grid
abbrev pub scale_at : Shape → Float
scale_at s = of_int binary64 (pos s.cell.grid.unit)

abbrev pub turned_of : List Float → Shape → ℕ → Result SphereBoundary Refusal
turned_of f s turns = globe_of (first_refused f (scale_at s) (needed_to s turns)) (map (image_of f (scale_at s)) (points_to s turns))

-- the same of a cell that may lie out of its face
unfoldable pub within_of : List Float → Shape → ℕ → Result SphereBoundary Refusal
within_of f s n =
    let turns = turns_for s.sides n in
    globe_of (or_else (outside_verdict s) (first_refused f (scale_at s) (needed_to s turns))) (map (image_of f (scale_at s)) (points_to s turns))
