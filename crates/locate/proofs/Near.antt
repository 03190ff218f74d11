-- A place is never refused with 9: the plane point of a vector that passes is always near enough. Assumes nothing.
use mathlib.Core.Path.{◌≡◌, refl, sym, ◌∙◌}
use mathlib.Core.Bool.{Bool, true, false, true≢false}
use mathlib.Core.List.{List}
use Prim.Native.Nat.{ℕ}
use native.Mathlib.Omega.{arith}
use lib.Ieee.{Float}
use borrow.Author.Tests.{ltb-false}
use Rattle.std.specs.Prelude.{Err}
use Rattle.reply.specs.Choice.{pick}
use Rattle.reply.specs.declared.Refusal.{Refusal}
use Rattle.reply.specs.declared.Refusal.TheVariants.{BadFrame, BadLevel, BadNumber, OffSphere, Behind, TooFar}
use Rattle.reply.specs.Replies.{number_of, Verdict}
use Rattle.reply.proofs.Entries.{found}
use Rattle.level.specs.Levels.{bad_cell}
use Rattle.vec2d.specs.Rounding.{too_far}
use Rattle.vec3d.specs.declared.Vec3d.{Vec3d}
use Rattle.vec3d.specs.Vectors.{bad_number, off_sphere}
use Rattle.vec3d.specs.Frame.{bad_frame}
use Rattle.vec3d.proofs.Choosing.{nearest_in}
use Rattle.face_projection.specs.Projection.{behind}
use Rattle.face_projection.proofs.Finite.{point_near}
use Rattle.locate.specs.Locating.{near_face, near_axes, near_point, locate_verdict}

-- a verdict that is another refusal than the first reason's: the reason does not apply, and the others decide
other : (b : Bool) (r t : Refusal) (v : Verdict) → (number_of r ≡ number_of t → ⊥) → pick b (Err r) v ≡ Err t → (b ≡ false) × (v ≡ Err t)
other true r t v apart e = let q : r ≡ t = cc in absurd (apart (λ n. number_of (q n)))
other false r t v apart e = (refl, e)

-- No frame, level and vector are refused with TooFar.
pub never_nine : (s : List Float) (l : ℕ) (p : Vec3d) → locate_verdict s l p ≡ Err TooFar → ⊥
never_nine s l p e =
    let f = other (bad_frame s) BadFrame TooFar _ (λ z. omega arith) e in
    let c = other (bad_cell l) BadLevel TooFar _ (λ z. omega arith) f.1 in
    let n = other (bad_number p) BadNumber TooFar _ (λ z. omega arith) c.1 in
    let o = other (off_sphere p) OffSphere TooFar _ (λ z. omega arith) n.1 in
    let b = other (behind (near_axes s p) p) Behind TooFar _ (λ z. omega arith) o.1 in
    let far = (found (too_far (near_point s l p)) TooFar TooFar b.1).0 in
    let near = point_near s (near_face s p) l p f.0 (omega (arith, nearest_in s p 19)) (ltb-false 15 l c.0) n.0 o.0 b.0 in
    true≢false (sym far ∙ near)
