-- `on_grid` meets its contract: the faces are tested, then the level, then the rest. Assumes nothing.
use mathlib.Core.Path.{◌∙◌, ap}
use mathlib.Core.Bool.{true}
use Rattle.level.specs.declared.Grid.{Grid}
use Rattle.level.proofs.Unique.{grid_told}
use Rattle.faceijk.specs.Places.{on_grid_of}
use Rattle.names.specs.Entries.{inside_verdict}
use Rattle.names.proofs.on_grid.Goals as goal

pub returns : goal.returns
returns c =
    let a = c.args in
    let told = grid_told a.level.0 true c.in_ok-grid.was c.grid.ensures in
    simp (c.if-p-q.false, told.0)
    (c.inside.ensures ∙ ap (λ (g : Grid). on_grid_of (inside_verdict a.p a.q g) g) told.1)
