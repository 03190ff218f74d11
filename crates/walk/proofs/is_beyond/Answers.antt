-- `is_beyond` meets its contract: the limit is that of the grid. Assumes nothing.
use mathlib.Core.Path.{ap, sym, ◌∙◌}
use mathlib.Core.Bool.{true≢false}
use lib.Dec.{ltb}
use Rattle.level.specs.declared.Grid.{Grid}
use Rattle.level.proofs.Unique.{grid_told, grid_refused}
use Rattle.faceijk.specs.Places.{sum_at}
use Rattle.walk.proofs.is_beyond.Goals as goal

pub returns-in-Ok : goal.returns-in-Ok
returns-in-Ok c =
    let a = c.args in
    let s = c.sum-sum in
    λ ok. rw (c.from.ensures, s.ensures) (ap (λ (g : Grid). ltb g.limit (sum_at a.p)) (grid_told a.level.0 a.substrate c.in-Ok.is c.grid.ensures).1)

pub returns-in-Err : goal.returns-in-Err
returns-in-Err c =
    let a = c.args in
    λ ok. absurd (true≢false (sym (grid_refused a.level.0 a.substrate c.in-Err.is c.grid.ensures).0 ∙ ok))
