-- `Cell::pentagon_crossing` meets its contract: no edge is refused, and the second corner is stepped over. Assumes nothing.
use Rattle.faceijk.specs.Steps.{step_of}
use Rattle.boundary.specs.CrossingPoints.{taken_over, pentagon_crossing}
use Rattle.boundary.proofs.Cell.pentagon_crossing.Goals as goal

pub returns-then-edge : goal.returns-then-edge
unfolding pentagon_crossing
returns-then-edge c = rw (← c.edge_to-edge.ensures, c.if-edge.true)

pub returns : goal.returns
unfolding pentagon_crossing taken_over step_of
returns c =
    let pre = c.requires in
    rw (
      c.cross_at.ensures,
      c.from_ijk-b.ensures,
      c.coord.ensures,
      c.over-over.ensures,
      c.back_edge-back.ensures,
      ← c.edge_to-edge.ensures,
      c.if-edge.false,
      pre.1,
      pre.3,
    )
