-- From a plane point of a face to the sphere. Document 02, §1.
use Rattle.reply.specs.declared.Refusal.{Refusal}
use Rattle.std.specs.Prelude.{Bool, true, not, ◌||◌, List, [], ◌∷◌, ℕ, pos, Float, Result}
use Rattle.std.specs.Float.{binary64}
use Rattle.std.specs.Float.Ieee.{add, mul, div, eq, lt, of_int, to_bits}
use Rattle.reply.specs.declared.Refusal.TheVariants.{BadFrame, BadFace, BadLevel, BadNumber, Behind}
use Rattle.reply.specs.Replies.{Reply, Reason, when, first, reply, Verdict, said}
use Rattle.level.specs.Levels.{bad_grid, unit_of}
use Rattle.faceijk.specs.Places.{bad_face}
use Rattle.double.specs.Double.{nought, quarter, finite}
use Rattle.vec2d.specs.declared.Vec2d.{Vec2d}
use Rattle.vec2d.specs.Points.{is_point}
use Rattle.vec3d.specs.declared.Vec3d.{Vec3d}
use Rattle.vec3d.specs.declared.FaceAxes.{FaceAxes}
use Rattle.vec3d.specs.Vectors.{dot_of}
use Rattle.vec3d.specs.Frame.{face_at, bad_frame}
use Rattle.root.specs.Root.{root_of}

abbrev pub vector : Float → Float → Float → Vec3d
vector x y z = record { x = x; y = y; z = z }

-- 3·7^(L/2), which is a double
abbrev pub scale_of : ℕ → Float
scale_of l = of_int binary64 (pos (unit_of l true))

-- a part of the point / (3·7^(L/2)), then / (u·u)
unfoldable pub share_of : FaceAxes → Float → Float → Float
share_of a scale x = div binary64 (div binary64 x scale) (dot_of a.u a.u)

-- (centre + x·u) + y·v, of one part
unfoldable pub along_of : Float → Float → Float → Float → Float → Float
along_of c x u y v = add binary64 (add binary64 c (mul binary64 x u)) (mul binary64 y v)

-- and of all three: where the point lies on the face's plane
unfoldable pub reached_of : FaceAxes → Float → Vec2d → Vec3d
reached_of a scale p =
    let x = share_of a scale p.x in
    let y = share_of a scale p.y in
    vector
    (along_of a.centre.x x a.u.x y a.v.x)
    (along_of a.centre.y x a.u.y y a.v.y)
    (along_of a.centre.z x a.u.z y a.v.z)

-- its dot product with itself
abbrev pub square_of : FaceAxes → Float → Vec2d → Float
square_of a scale p = dot_of (reached_of a scale p) (reached_of a scale p)

-- divided by the length: three divisions
unfoldable pub divided_by : Float → Vec3d → Vec3d
divided_by l v = vector (div binary64 v.x l) (div binary64 v.y l) (div binary64 v.z l)

abbrev pub sphere_of : FaceAxes → Float → Vec2d → Vec3d
sphere_of a scale p = divided_by (root_of (square_of a scale p)) (reached_of a scale p)

-- BadNumber: x or y not finite, u·u zero, squared length not finite
unfoldable pub bad_point : FaceAxes → Float → Vec2d → Bool
bad_point a scale p = not (is_point p) || (eq (dot_of a.u a.u) nought || not (finite (square_of a scale p)))

-- Behind: squared length below 0.25
unfoldable pub behind : FaceAxes → Float → Vec2d → Bool
behind a scale p = lt (square_of a scale p) quarter

abbrev pub lift_reasons : FaceAxes → Float → Vec2d → List Reason
lift_reasons a scale p = when (bad_point a scale p) BadNumber ∷ when (behind a scale p) Behind ∷ []

abbrev pub lift_verdict : FaceAxes → Float → Vec2d → Verdict
lift_verdict a scale p = first (lift_reasons a scale p)

-- the entry, in the paper's numbers: x, y and z
abbrev pub sphere_reasons : List Float → ℕ → ℕ → Vec2d → List Reason
sphere_reasons s f l p = when (bad_frame s) BadFrame ∷ when (bad_face f) BadFace ∷ when (bad_grid l) BadLevel ∷ lift_reasons (face_at s f) (scale_of l) p

abbrev pub sphere_verdict : List Float → ℕ → ℕ → Vec2d → Verdict
sphere_verdict s f l p = first (sphere_reasons s f l p)

abbrev pub vector_values : Vec3d → List ℕ
vector_values v = to_bits binary64 v.x ∷ to_bits binary64 v.y ∷ to_bits binary64 v.z ∷ []

abbrev pub said_lifted : Result Vec3d Refusal → Reply
said_lifted = said 3 vector_values

abbrev pub sphere_reply : List Float → ℕ → ℕ → Vec2d → Reply
sphere_reply s f l p = reply 3 (sphere_verdict s f l p) (vector_values (sphere_of (face_at s f) (scale_of l) p))
