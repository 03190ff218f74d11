-- `edge_line` meets its contract: each edge has its ends. Assumes nothing.
use borrow.Author.Tests.{eq-eqb, ne_eqb}
use Rattle.boundary.specs.CrossingPoints.{edge_line}
use Rattle.boundary.proofs.edge_line.Goals as goal

pub returns-then-edge-eq1 : goal.returns-then-edge-eq1
unfolding edge_line
returns-then-edge-eq1 c = rw (eq-eqb _ 1 c.if-edge-eq1.true, c.new-v1.ensures, c.new-v0.ensures, c.from-max.ensures)

pub returns-then-edge-eq2 : goal.returns-then-edge-eq2
unfolding edge_line
returns-then-edge-eq2 c =
    rw (ne_eqb _ 1 c.if-edge-eq1.false, eq-eqb _ 2 c.if-edge-eq2.true, c.new-v2.ensures, c.new-v0.ensures, c.from-max.ensures)

pub returns : goal.returns
unfolding edge_line
returns c =
    rw (ne_eqb _ 1 c.if-edge-eq1.false, ne_eqb _ 2 c.if-edge-eq2.false, c.new-v2.ensures, c.new-v1.ensures, c.from-max.ensures)
