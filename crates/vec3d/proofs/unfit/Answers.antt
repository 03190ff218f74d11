-- `unfit` meets its contract. Assumes nothing.
use Rattle.vec3d.specs.AsAsked.{unfit}
use Rattle.vec3d.proofs.unfit.Goals as goal

pub returns : goal.returns
unfolding unfit
returns c =
    rw (
      c.off_sphere.ensures,
      c.loose-2.ensures,
      c.loose.ensures,
      c.face_at.ensures,
    )
