-- `on_nearest` meets its contract: the projection decides, and its point is finite, so that rounding does. Assumes nothing.
use mathlib.Core.Path.{◌≡◌, sym, ap, ◌∙◌}
use Prim.Native.Nat.{◌≤◌}
use native.Mathlib.Omega.{arith}
use Rattle.std.proofs.lemmas.Result.{err_from_is_err_and}
use Rattle.reply.specs.Replies.{reply, Verdict}
use Rattle.vec3d.proofs.Passing.{passed_long}
use Rattle.vec3d.proofs.Choosing.{nearest_in}
use Rattle.face_projection.specs.Projection.{projected_of}
use Rattle.locate.specs.Locating.{near_axes, place_of, spot_of, spot_values}
use Rattle.locate.proofs.Entering.{in_front, is_behind, front_verdict, front_refuses}
use Rattle.locate.proofs.on_nearest.Goals as goal

pub face_at-requires : goal.face_at-requires
face_at-requires c =
    let a = c.args in
    let low : a.face ≤ 19 = rw c.requires.1 (nearest_in a.frame.now a.p 19) in
    omega (arith, low, passed_long a.frame.now c.requires.0.frame)

pub returns-in_err-point : goal.returns-in_err-point
returns-in_err-point c =
    let a = c.args in
    let s = a.frame.now in
    let projected : c.project.result ≡ projected_of (near_axes s a.p) a.level.0 a.p = rw (c.face_at.ensures, c.requires.1) at c.project.ensures in
    let out = err_from_is_err_and c.from_residual.result c.from_residual.ensures.1 in
    rw (out.1, out.2) (front_refuses s a.level.0 a.p c.requires.0 _ (is_behind (near_axes s a.p) a.level.0 a.p _ (sym projected ∙ c.in_err-point.was)))

pub returns : goal.returns
unfolding place_of
returns c =
    let a = c.args in
    let s = a.frame.now in
    -- what was projected is the vector on its nearest face
    let projected : c.project.result ≡ projected_of (near_axes s a.p) a.level.0 a.p = rw (c.face_at.ensures, c.requires.1) at c.project.ensures in
    let front = in_front (near_axes s a.p) a.level.0 a.p _ (sym projected ∙ c.in_ok-point.was) in
    (rw (front.1, c.requires.1) at c.rounded.ensures)
    ∙ ap (λ (v : Verdict). reply 6 v (spot_values (spot_of s a.level.0 a.p))) (front_verdict s a.level.0 a.p c.requires.0 front.0)
