-- `Place::out` meets its contract: it starts where crossing starts and steps over the edge out. Assumes nothing.
use mathlib.Core.Bool.{◌&&◌}
use native.Mathlib.Omega.{arith}
use lib.Dec.{eqb}
use Rattle.faceijk.specs.Crossing.{step_out}
use Rattle.faceijk.proofs.Taking.{start_ready, edge_range}
use Rattle.faceijk.proofs.Place.out.Goals as goal

pub over-requires : goal.over-requires
over-requires c =
    let a = c.args in
    let pre = c.requires in
    let r = start_ready (a.turn && eqb c.edge_out-edge.result 2) a.grid a.self _ c.start-start.ensures pre.0 pre.1 in
    let e = edge_range a.self in
    (r.0, r.1, omega (arith, c.edge_out-edge.ensures), omega (arith, c.edge_out-edge.ensures), pre.1)

pub returns : goal.returns
unfolding step_out
returns c = rw (c.over.ensures, c.start-start.ensures, c.edge_out-edge.ensures)
