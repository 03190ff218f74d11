-- `Cell::hexagon_crossing` meets its contract: each return by its tests. Assumes nothing.
use borrow.Author.Tests.{eq-eqb, ne_eqb}
use Rattle.boundary.specs.CrossingPoints.{hexagon_crossing}
use Rattle.boundary.proofs.Cell.hexagon_crossing.Goals as goal

pub returns-then-last-now : goal.returns-then-last-now
unfolding hexagon_crossing
returns-then-last-now c = rw (eq-eqb _ _ c.if-last-now.true)

pub returns-then-is_face_edge : goal.returns-then-is_face_edge
unfolding hexagon_crossing
returns-then-is_face_edge c = rw (ne_eqb _ _ c.if-last-now.false, ← c.is_face_edge.ensures, c.if-is_face_edge.true)

pub returns : goal.returns
unfolding hexagon_crossing
returns c =
    rw (
      ne_eqb _ _ c.if-last-now.false,
      ← c.is_face_edge.ensures,
      c.if-is_face_edge.false,
      c.edge_crossing.ensures,
      c.away_face.ensures,
    )
