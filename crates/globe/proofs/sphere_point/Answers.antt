-- `sphere_point` meets its contract: each return by the tests that lead to it. Assumes nothing.
use mathlib.Core.Path.{sym, ◌∙◌}
use native.Mathlib.Omega.{arith}
use Rattle.vec3d.proofs.Passing.{passed_long}
use Rattle.globe.proofs.sphere_point.Goals as goal

pub face_at-requires : goal.face_at-requires
face_at-requires c =
    let a = c.args in
    omega (arith, c.if-face-gt-LAST_FACE.false, passed_long a.frame.now (sym c.bad_frame.ensures ∙ c.if-bad_frame.false))
