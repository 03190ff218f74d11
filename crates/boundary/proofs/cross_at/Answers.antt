-- `cross_at` meets its contract: no edge is refused, and the lines meet by the formula. Assumes nothing.
use Rattle.std.proofs.lemmas.Result.{err_from_is_err_and}
use Rattle.boundary.specs.CrossingPoints.{cross_at}
use Rattle.boundary.proofs.cross_at.Goals as goal

pub returns-then-edge : goal.returns-then-edge
unfolding cross_at
returns-then-edge c = rw c.if-edge.true

pub returns-in_err-met : goal.returns-in_err-met
unfolding cross_at
returns-in_err-met c =
    let out = err_from_is_err_and c.from_residual.result c.from_residual.ensures.1 in
    rw (out.1, out.2, c.if-edge.false, ← c.edge_line.ensures, ← c.crossing.ensures, ← c.met.ensures, c.in_err-met.was)

pub returns : goal.returns
unfolding cross_at
returns c =
    rw (c.on.ensures, c.if-edge.false, ← c.edge_line.ensures, ← c.crossing.ensures, ← c.met.ensures, c.in_ok-met.was)
