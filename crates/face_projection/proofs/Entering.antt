-- How the entry's tests lead to its answer. Assumes nothing.
use mathlib.Core.Path.{◌≡◌, refl, sym, ap, ◌∙◌}
use mathlib.Core.Bool.{Bool, true, false}
use mathlib.Core.List.{List, [], ◌∷◌, ◌++◌}
use Prim.Native.Nat.{ℕ, ◌<◌, ◌≤◌}
use native.Mathlib.Omega.{arith}
use lib.Ieee.{Float}
use borrow.Author.Tests.{ltb-false}
use Rattle.std.specs.Prelude.{Ok, Err}
use Rattle.reply.specs.Choice.{pick}
use Rattle.reply.specs.declared.Refusal.{Refusal}
use Rattle.reply.specs.declared.Refusal.TheVariants.{BadFrame, BadFace, BadLevel, Behind}
use Rattle.reply.specs.Replies.{Reason, when, first, refusal, reply, Verdict, fine}
use Rattle.reply.proofs.Entries.{passed, refuses}
use Rattle.level.specs.Levels.{bad_cell}
use Rattle.vec2d.specs.Points.{said_pointed, point_values}
use Rattle.vec3d.specs.declared.Vec3d.{Vec3d}
use Rattle.vec3d.specs.declared.FaceAxes.{FaceAxes}
use Rattle.vec3d.specs.Vectors.{vector_reasons, vector_verdict}
use Rattle.vec3d.specs.Frame.{face_at, bad_frame}
use Rattle.vec3d.proofs.Series.{series_fine, series_refused}
use Rattle.faceijk.specs.Places.{bad_face}
use Rattle.face_projection.specs.Projection.{behind, point_of, projected_of, before_reasons, behind_reasons, plane_reply}

-- what the tests before the vector leave known
pub record Before (s : List Float) (f l : ℕ) : Type 0 where
  pub frame : bad_frame s ≡ false
  pub face : f < 20
  pub level : l ≤ 15

pub before : (s : List Float) (f l : ℕ) → first (before_reasons s f l) ≡ fine → Before s f l
before s f l e =
    let p = passed (bad_frame s) BadFrame _ e in
    let q = passed (bad_face f) BadFace _ p.1 in
    let r = passed (bad_cell l) BadLevel fine q.1 in
    record { frame = p.0; face = omega (arith, ltb-false 19 f q.0); level = ltb-false 15 l r.0 }

said_projected : (a : FaceAxes) (l : ℕ) (p : Vec3d) → said_pointed (projected_of a l p) ≡ reply 2 (first (behind_reasons a p)) (point_values (point_of a l p))
unfolding projected_of
said_projected a l p = go (behind a p)
  where
    go : (b : Bool)
        → said_pointed (pick b (Err Behind) (Ok (point_of a l p))) ≡ reply 2 (first (when b Behind ∷ [])) (point_values (point_of a l p))
    go true = refl
    go false = refl

module _ (s : List Float) (f l : ℕ) (p : Vec3d) where
  abbrev rest : List Reason
  rest = vector_reasons p ++ behind_reasons (face_at s f) p

  -- what the tests before the vector find is what is given
  pub before_refuses : (r : Refusal) → first (before_reasons s f l) ≡ Err r → refusal 2 r ≡ plane_reply s f l p
  before_refuses r e = refuses 2 _ _ r (series_refused (before_reasons s f l) rest r e)

  module _ (e : first (before_reasons s f l) ≡ fine) where
    -- then what the vector's tests find
    pub vector_refuses : (r : Refusal) → vector_verdict p ≡ Err r → refusal 2 r ≡ plane_reply s f l p
    vector_refuses r v =
        refuses 2 _ _ r (series_fine (before_reasons s f l) rest e ∙ series_refused (vector_reasons p) (behind_reasons (face_at s f) p) r v)

    -- then what `project` gives
    pub project_answers : vector_verdict p ≡ fine → said_pointed (projected_of (face_at s f) l p) ≡ plane_reply s f l p
    project_answers v =
        let decided = series_fine (before_reasons s f l) rest e ∙ series_fine (vector_reasons p) (behind_reasons (face_at s f) p) v in
        said_projected (face_at s f) l p ∙ ap (λ (w : Verdict). reply 2 w (point_values (point_of (face_at s f) l p))) (sym decided)
