-- `plane_point` meets its contract: frame, face and level are tested first, then the vector, then whether it is behind. Assumes nothing.
use mathlib.Core.Path.{◌≡◌, sym, ◌∙◌}
use native.Mathlib.Omega.{arith}
use Rattle.reply.specs.Replies.{first, fine}
use Rattle.vec3d.proofs.Passing.{passed_long}
use Rattle.face_projection.specs.Projection.{before_reasons}
use Rattle.face_projection.proofs.Entering.{before, project_answers}
use Rattle.face_projection.proofs.plane_point.Goals as goal

pub face_at-requires : goal.face_at-requires
face_at-requires c =
    let a = c.args in
    -- past the first tests
    let entered : first (before_reasons a.frame.now a.face a.level.0) ≡ fine = sym c.verdict_before.ensures ∙ c.in_ok-verdict_before.was in
    let b = before a.frame.now a.face a.level.0 entered in
    omega (arith, b.face, passed_long a.frame.now b.frame)

pub returns : goal.returns
returns c =
    let a = c.args in
    let entered : first (before_reasons a.frame.now a.face a.level.0) ≡ fine = sym c.verdict_before.ensures ∙ c.in_ok-verdict_before.was in
    let clear = sym c.verdict.ensures ∙ c.in_ok-verdict.was in
    rw (c.project.ensures, c.face_at.ensures) (project_answers a.frame.now a.face a.level.0 a.p entered clear)
