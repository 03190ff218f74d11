-- `project` meets its contract: the test of Behind decides. Assumes nothing.
use Rattle.face_projection.specs.Projection.{behind, projected_of}
use Rattle.face_projection.proofs.project.Goals as goal

pub returns-then-dot : goal.returns-then-dot
unfolding projected_of behind
returns-then-dot c = rw (rw c.dot.ensures at c.if-dot.true)

pub returns : goal.returns
unfolding projected_of behind
returns c =
    rw (
      rw c.dot.ensures at c.if-dot.false,
      c.at_level.ensures,
      c.new.ensures,
    )
