-- `Place::settle` meets its contract: its tests give the grid, and the settling goes on it. Assumes nothing.
use mathlib.Core.Bool.{false}
use Rattle.faceijk.proofs.Taking.{entered}
use Rattle.faceijk.proofs.Place.settle.Goals as goal

pub settled-requires : goal.settled-requires
settled-requires c =
    let a = c.args in
    let t = entered a.self a.level.0 a.substrate false c.in_ok-grid.was c.on_grid.ensures in
    (t.okay, t.sound)
