-- The place of a unit vector at a cell level, with the leftovers of its rounding. Document 01, "Place", on the nearest face; then rounding.
use Rattle.reply.specs.declared.Refusal.{Refusal}
use Rattle.std.specs.Prelude.{◌≡◌, false, List, [], ◌∷◌, ◌++◌, ℕ, ◌≤◌, Float, Result}
use Rattle.reply.specs.declared.Refusal.TheVariants.{BadFrame, BadLevel, BadNumber, OffSphere, Behind, TooFar}
use Rattle.reply.specs.Replies.{Reply, Reason, when, first, reply, Verdict, fine, said}
use Rattle.level.specs.Levels.{bad_cell}
use Rattle.vec2d.specs.declared.Vec2d.{Vec2d}
use Rattle.vec2d.specs.declared.Leftovers.{Leftovers}
use Rattle.vec2d.specs.Rounding.{too_far, nearest_of, leftovers_of, left_values}
use Rattle.vec3d.specs.declared.Vec3d.{Vec3d}
use Rattle.vec3d.specs.declared.FaceAxes.{FaceAxes}
use Rattle.vec3d.specs.Vectors.{bad_number, off_sphere, vector_verdict}
use Rattle.vec3d.specs.Frame.{face_at, bad_frame}
use Rattle.vec3d.specs.Nearest.{nearest_to}
use Rattle.face_projection.specs.Projection.{behind, point_of}
use Rattle.faceijk.specs.declared.Place.{Place}
use Rattle.faceijk.specs.Places.{place, place_values}
use Rattle.locate.specs.declared.Spot.{Spot}

abbrev pub near_face : List Float → Vec3d → ℕ
near_face s p = (nearest_to s p 19).face

abbrev pub near_axes : List Float → Vec3d → FaceAxes
near_axes s p = face_at s (near_face s p)

-- the plane point on the nearest face, and the place that it is rounded to
abbrev pub near_point : List Float → ℕ → Vec3d → Vec2d
near_point s l p = point_of (near_axes s p) l p

unfoldable pub place_of : List Float → ℕ → Vec3d → Place
place_of s l p = place (near_face s p) (nearest_of (near_point s l p))

-- the place with the leftovers of its plane point, passed on as rounding returns them
abbrev pub spot : Place → Leftovers → Spot
spot p l = record { place = p; left = l }

abbrev pub spot_of : List Float → ℕ → Vec3d → Spot
spot_of s l p = spot (place_of s l p) (leftovers_of (near_point s l p))

-- as a reply's values: face, i, j, k, and the bits of r1 and r2
abbrev pub spot_values : Spot → List ℕ
spot_values t = place_values t.place ++ left_values t.left

-- what refuses a vector in front of a face that will do; what refuses a row; and what refuses the entry
abbrev pub front_reasons : List Float → ℕ → Vec3d → List Reason
front_reasons s l p = when (behind (near_axes s p) p) Behind ∷ when (too_far (near_point s l p)) TooFar ∷ []

abbrev pub row_reasons : List Float → ℕ → Vec3d → List Reason
row_reasons s l p = when (bad_number p) BadNumber ∷ when (off_sphere p) OffSphere ∷ front_reasons s l p

abbrev pub locate_reasons : List Float → ℕ → Vec3d → List Reason
locate_reasons s l p = when (bad_frame s) BadFrame ∷ when (bad_cell l) BadLevel ∷ row_reasons s l p

abbrev pub row_verdict : List Float → ℕ → Vec3d → Verdict
row_verdict s l p = first (row_reasons s l p)

abbrev pub locate_verdict : List Float → ℕ → Vec3d → Verdict
locate_verdict s l p = first (locate_reasons s l p)

-- the entry, in the paper's numbers, and what becomes of a row's vector where frame and level have passed
abbrev pub said_located : Result Spot Refusal → Reply
said_located = said 6 spot_values

abbrev pub row_reply : List Float → ℕ → Vec3d → Reply
row_reply s l p = reply 6 (row_verdict s l p) (spot_values (spot_of s l p))

abbrev pub locate_reply : List Float → ℕ → Vec3d → Reply
locate_reply s l p = reply 6 (locate_verdict s l p) (spot_values (spot_of s l p))

-- its whole numbers alone, as document 01 has the entry
abbrev pub place_reply : List Float → ℕ → Vec3d → Reply
place_reply s l p = reply 4 (locate_verdict s l p) (place_values (place_of s l p))

-- what the inner functions ask: a frame and a level that have passed, and a vector that has
pub record Passed (s : List Float) (l : ℕ) : Type 0 where
  pub frame : bad_frame s ≡ false
  pub level : l ≤ 15

pub record Entered (s : List Float) (l : ℕ) (p : Vec3d) : Type 0 where
  pub frame : bad_frame s ≡ false
  pub level : l ≤ 15
  pub vector : vector_verdict p ≡ fine
