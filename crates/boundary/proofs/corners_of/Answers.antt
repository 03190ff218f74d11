-- `corners_of` meets its contract: its tests, and the six corners of a cell that passes. Assumes nothing.
use mathlib.Core.Path.{sym, ◌∙◌}
use mathlib.Core.Bool.{false}
use Rattle.reply.proofs.Entries.{answers}
use Rattle.boundary.proofs.Asked.{asked}
use Rattle.boundary.proofs.Cells.{upto_cell, cell_values}
use Rattle.boundary.proofs.corners_of.Goals as goal

pub corners-requires : goal.corners-requires
corners-requires c =
    let a = c.args in
    upto_cell _ _ _ c.made-cell.ensures (asked a.centre a.level.0 false (sym c.cell_verdict.ensures ∙ c.in_ok-cell_verdict.was)).taken

pub returns : goal.returns
returns c =
    answers 19 _ _ _ (sym c.cell_verdict.ensures ∙ c.in_ok-cell_verdict.was)
    (cell_values _ _ _ _ c.made-cell.ensures c.corners.ensures)
