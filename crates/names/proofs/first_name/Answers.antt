-- `first_name` meets its contract: its tests give the grid, and the first name is found on it. Assumes nothing.
use Rattle.names.proofs.Taking.{entered}
use Rattle.names.proofs.first_name.Goals as goal

pub first_of-requires : goal.first_of-requires
first_of-requires c =
    let a = c.args in
    let t = entered a.p a.p a.level.0 c.in_ok-grid.was c.on_grid.ensures in
    (t.here, t.sound)
