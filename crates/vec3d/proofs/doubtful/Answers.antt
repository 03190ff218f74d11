-- `doubtful` meets its contract. Assumes nothing.
use Rattle.vec3d.specs.AsAsked.{doubtful}
use Rattle.vec3d.proofs.doubtful.Goals as goal

pub returns : goal.returns
unfolding doubtful
returns c =
    rw (c.is_unit.ensures, c.dot-3.ensures, c.dot-2.ensures, c.dot.ensures, c.face_at.ensures)
