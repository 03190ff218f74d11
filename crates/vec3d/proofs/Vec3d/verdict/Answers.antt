-- `Vec3d::verdict` meets its contract: each return by the tests that lead to it. Assumes nothing.
use mathlib.Core.Path.{sym, ◌∙◌}
use Rattle.vec3d.proofs.OnePass.{on_sphere}
use Rattle.vec3d.proofs.Vec3d.verdict.Goals as goal

pub returns : goal.returns
returns c =
    let on = sym c.off_sphere.ensures ∙ c.if-off_sphere.false in
    rw (on_sphere _ on, on)
