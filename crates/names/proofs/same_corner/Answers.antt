-- `same_corner` meets its contract: its tests give the grid, and the names are compared on it. Assumes nothing.
use Rattle.names.proofs.Taking.{entered}
use Rattle.names.proofs.same_corner.Goals as goal

pub are_same-requires : goal.are_same-requires
are_same-requires c =
    let a = c.args in
    let t = entered a.p a.q a.level.0 c.in_ok-grid.was c.on_grid.ensures in
    (t.here, t.sound)
