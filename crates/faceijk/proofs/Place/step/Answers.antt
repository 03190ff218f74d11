-- `Place::step` meets its contract: its tests give the grid, and the step is made on it. Assumes nothing.
use Rattle.faceijk.specs.Entries.{bad_edge}
use Rattle.faceijk.proofs.Taking.{entered, edge_low, okay_ready}
use Rattle.faceijk.proofs.Place.step.Goals as goal

pub over-requires : goal.over-requires
over-requires c =
    let a = c.args in
    let t = entered a.self a.level.0 a.substrate (bad_edge a.edge) c.in_ok-grid.was c.on_grid.ensures in
    let e = edge_low a.edge t.edge in
    (okay_ready t.okay, t.okay.on, e.0, e.1, t.sound)
