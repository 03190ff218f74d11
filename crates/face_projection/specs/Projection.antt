-- From a unit vector to a plane point. Document 01, "Place".
use Rattle.reply.specs.declared.Refusal.{Refusal}
use Rattle.std.specs.Prelude.{Bool, List, [], ◌∷◌, ◌++◌, ℕ, ◌-◌, ◌/◌, ◌%◌, ◌^◌, pos, eqb, Float, Ok, Err, Result}
use Rattle.std.specs.Float.{binary64}
use Rattle.std.specs.Float.Ieee.{add, sub, mul, div, lt, of_int}
use Rattle.reply.specs.Choice.{pick}
use Rattle.reply.specs.declared.Refusal.TheVariants.{BadFrame, BadFace, BadLevel, Behind}
use Rattle.reply.specs.Replies.{Reply, Reason, when, first, reply, Verdict}
use Rattle.level.specs.Levels.{bad_cell}
use Rattle.double.specs.Double.{half, two_and_half, sin60}
use Rattle.vec2d.specs.declared.Vec2d.{Vec2d}
use Rattle.vec2d.specs.Points.{point, point_values}
use Rattle.vec3d.specs.declared.Vec3d.{Vec3d}
use Rattle.vec3d.specs.declared.FaceAxes.{FaceAxes}
use Rattle.vec3d.specs.Vectors.{dot_of, vector_reasons}
use Rattle.vec3d.specs.Frame.{face_at, bad_frame}
use Rattle.faceijk.specs.Places.{bad_face}
use Rattle.face_projection.specs.declared.FaceProjection.{FaceProjection}

-- Behind: p·c below 0.5
unfoldable pub behind : FaceAxes → Vec3d → Bool
behind a p = lt (dot_of p a.centre) half

-- x0 = (p·u)/(p·c), y0 = (p·v)/(p·c)
unfoldable pub projection_of : FaceAxes → Vec3d → FaceProjection
projection_of a p = record { x0 = div binary64 (dot_of p a.u) (dot_of p a.centre); y0 = div binary64 (dot_of p a.v) (dot_of p a.centre) }

-- 7^h, which is a double
unfoldable pub seven_to : ℕ → Float
seven_to h = of_int binary64 (pos (7 ^ h))

-- even level: both times 7^(level/2)
unfoldable pub even_level : ℕ → FaceProjection → Vec2d
even_level l q = let s = seven_to (l / 2) in point (mul binary64 q.x0 s) (mul binary64 q.y0 s)

-- odd level, h = (level-1)/2 and t = 0.8660254037844386: 7^h·(2.5·x0 + t·y0) and 7^h·(2.5·y0 - t·x0)
unfoldable pub odd_level : ℕ → FaceProjection → Vec2d
odd_level l q =
    let s = seven_to ((l - 1) / 2) in
    point
    (mul binary64 s (add binary64 (mul binary64 two_and_half q.x0) (mul binary64 sin60 q.y0)))
    (mul binary64 s (sub binary64 (mul binary64 two_and_half q.y0) (mul binary64 sin60 q.x0)))

unfoldable pub at_level : ℕ → FaceProjection → Vec2d
at_level l q = pick (eqb (l % 2) 0) (even_level l q) (odd_level l q)

-- the plane point of a vector on a face at a cell level
abbrev pub point_of : FaceAxes → ℕ → Vec3d → Vec2d
point_of a l p = at_level l (projection_of a p)

unfoldable pub projected_of : FaceAxes → ℕ → Vec3d → Result Vec2d Refusal
projected_of a l p = pick (behind a p) (Err Behind) (Ok (point_of a l p))

-- the entry, in the paper's numbers. What stands before the vector is looked at; what is left for a vector and a face that will do
abbrev pub before_reasons : List Float → ℕ → ℕ → List Reason
before_reasons s f l = when (bad_frame s) BadFrame ∷ when (bad_face f) BadFace ∷ when (bad_cell l) BadLevel ∷ []

abbrev pub behind_reasons : FaceAxes → Vec3d → List Reason
behind_reasons a p = when (behind a p) Behind ∷ []

abbrev pub plane_reasons : List Float → ℕ → ℕ → Vec3d → List Reason
plane_reasons s f l p = before_reasons s f l ++ (vector_reasons p ++ behind_reasons (face_at s f) p)

abbrev pub plane_verdict : List Float → ℕ → ℕ → Vec3d → Verdict
plane_verdict s f l p = first (plane_reasons s f l p)

abbrev pub plane_reply : List Float → ℕ → ℕ → Vec3d → Reply
plane_reply s f l p = reply 2 (plane_verdict s f l p) (point_values (point_of (face_at s f) l p))
