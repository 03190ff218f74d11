-- A vector that passes its own test, as every vector given out by the sphere does, is not refused for itself: no place of it gets 6 or 7. Assumes nothing.
use mathlib.Core.Path.{◌≡◌}
use mathlib.Core.Bool.{Bool, true, false}
use mathlib.Core.List.{List}
use Prim.Native.Nat.{ℕ}
use native.Mathlib.Omega.{arith}
use lib.Ieee.{Float}
use Rattle.std.specs.Prelude.{Err}
use Rattle.reply.specs.Choice.{pick}
use Rattle.reply.specs.declared.Refusal.TheVariants.{BadFrame, BadLevel, BadNumber, OffSphere, Behind, TooFar}
use Rattle.reply.specs.Replies.{verdict_number, fine}
use Rattle.reply.proofs.Entries.{passed}
use Rattle.level.specs.Levels.{bad_cell}
use Rattle.vec2d.specs.Rounding.{too_far}
use Rattle.vec3d.specs.declared.Vec3d.{Vec3d}
use Rattle.vec3d.specs.Vectors.{bad_number, off_sphere, vector_verdict}
use Rattle.vec3d.specs.Frame.{bad_frame}
use Rattle.face_projection.specs.Projection.{behind}
use Rattle.locate.specs.Locating.{near_axes, near_point, locate_verdict}

-- what is left without the vector's own reasons
others : (f c b t : Bool) (n : ℕ) → verdict_number (pick f (Err BadFrame) (pick c (Err BadLevel) (pick b (Err Behind) (pick t (Err TooFar) fine)))) ≡ n
    → (n ≡ 6 → ⊥) × (n ≡ 7 → ⊥)
others true c b t n e = (λ z. omega arith, λ z. omega arith)
others false true b t n e = (λ z. omega arith, λ z. omega arith)
others false false true t n e = (λ z. omega arith, λ z. omega arith)
others false false false true n e = (λ z. omega arith, λ z. omega arith)
others false false false false n e = (λ z. omega arith, λ z. omega arith)

pub never_six_or_seven : (s : List Float) (l : ℕ) (p : Vec3d) → vector_verdict p ≡ fine
    → (verdict_number (locate_verdict s l p) ≡ 6 → ⊥) × (verdict_number (locate_verdict s l p) ≡ 7 → ⊥)
never_six_or_seven s l p e =
    let n = passed (bad_number p) BadNumber _ e in
    let o = passed (off_sphere p) OffSphere _ n.1 in
    others (bad_frame s) (bad_cell l) (behind (near_axes s p) p) (too_far (near_point s l p)) (verdict_number (locate_verdict s l p)) (rw (n.0, o.0))
