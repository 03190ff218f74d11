-- The image of a point by the rule of one point. Assumes nothing.
use mathlib.Core.Path.{◌≡◌, refl, ap, ◌∙◌}
use mathlib.Core.List.{List}
use Prim.Native.Nat.{ℕ}
use lib.Ieee.{Float}
use Rattle.globe.specs.declared.SpherePoint.{SpherePoint}
use Rattle.reply.specs.declared.Refusal.{Refusal}
use Rattle.reply.specs.Replies.{Verdict}
use Rattle.std.specs.Prelude.{Ok, Err, Result}
use Rattle.vec2d.specs.declared.Vec2d.{Vec2d}
use Rattle.vec2d.specs.Points.{point}
use Rattle.vec3d.specs.declared.Vec3d.{Vec3d}
use Rattle.vec3d.specs.declared.FaceAxes.{FaceAxes}
use Rattle.vec3d.specs.Frame.{face_at}
use Rattle.boundary.specs.declared.BoundaryPoint.{BoundaryPoint}
use Rattle.globe.specs.Points.{sphere_of}
use Rattle.globe.specs.Boundaries.{with_vector, image_of, image_verdict}
use Rattle.globe.specs.AsWorked.{lifted_by, lifted_of, imaged_by, imaged_of}

abbrev pub as_image : ℕ → ℕ → Result Vec3d Refusal → Result SpherePoint Refusal
as_image f mark (Ok v) = Ok (with_vector f mark v)
as_image f mark (Err r) = Err r

as_image_lem : (f mark : ℕ) (v : Verdict) (w : Vec3d) → as_image f mark (lifted_by v w) ≡ imaged_by v (with_vector f mark w)
as_image_lem f mark (Ok _) w = refl
as_image_lem f mark (Err r) w = refl

-- what is lifted with its face's axes is the image
pub image_is : (s : List Float) (scale : Float) (p : BoundaryPoint) (a : FaceAxes) (q : Vec2d) (l : Result Vec3d Refusal) → a ≡ face_at s p.face → q ≡ point p.x p.y → l ≡ lifted_of a scale q → as_image p.face p.mark l ≡ imaged_of s scale p
unfolding image_of
image_is s scale p a q l e f g = ap (as_image p.face p.mark) (g ∙ (λ n. lifted_of (e n) scale (f n))) ∙ as_image_lem p.face p.mark (image_verdict s scale p) (sphere_of (face_at s p.face) scale (point p.x p.y))
