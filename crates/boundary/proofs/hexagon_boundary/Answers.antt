-- `hexagon_boundary` meets its contract: its tests, the walk round a cell that passes, and what the record says. Assumes nothing.
use mathlib.Core.Path.{refl, sym, ap, ◌∙◌}
use native.Mathlib.Omega.{arith}
use Rattle.std.proofs.lemmas.Result.{err_from_is_err_and}
use Rattle.boundary.specs.declared.Cell.{Cell}
use Rattle.boundary.specs.Landing.{shape_of}
use Rattle.boundary.specs.Boundaries.{bad_range, said_boundary}
use Rattle.boundary.specs.AsWalked.{within_of}
use Rattle.boundary.proofs.Asked.{asked}
use Rattle.boundary.proofs.Cells.{solid}
use Rattle.boundary.proofs.Verdicts.{within_is, refused_is, ranged, outline_said}
use Rattle.boundary.proofs.hexagon_boundary.Goals as goal

pub hexagon-requires : goal.hexagon-requires
hexagon-requires c =
    let a = c.args in
    let t = asked a.centre a.level.0 (bad_range 6 a.start a.length) (sym c.cell_verdict.ensures ∙ c.in_ok-cell_verdict.was) in
    let r = ranged 6 a.start a.length t.ranged in
    (solid 6 a.centre a.level.0 a.start _ c.made-cell.ensures t.on t.level (omega arith) (omega arith) r.0, r.1, refl)

pub returns-in_err-cell_verdict : goal.returns-in_err-cell_verdict
returns-in_err-cell_verdict c =
    let a = c.args in
    let out = err_from_is_err_and c.from_residual.result c.from_residual.ensures.1 in
    rw (out.1, out.2)
    (ap said_boundary (refused_is 6 a.centre a.level.0 a.start a.length _ (sym c.cell_verdict.ensures ∙ c.in_err-cell_verdict.was)) ∙
    outline_said 6 a.centre a.level.0 a.start a.length)

pub returns : goal.returns
returns c =
    let a = c.args in
    ap said_boundary
    (c.hexagon.ensures ∙
    (ap (λ (x : Cell). within_of (shape_of 6 x a.start) a.length) c.made-cell.ensures ∙
    within_is 6 a.centre a.level.0 a.start a.length (sym c.cell_verdict.ensures ∙ c.in_ok-cell_verdict.was))) ∙
    outline_said 6 a.centre a.level.0 a.start a.length
