-- `sphere_boundary` meets its contract: its tests, the border of a cell that passes, and what the record says. Assumes nothing.
use mathlib.Core.Path.{◌≡◌, sym, ap, ◌∙◌}
use mathlib.Core.Bool.{false}
use Prim.Native.Nat.{ℕ, ◌≤◌}
use native.Mathlib.Omega.{arith}
use Rattle.std.proofs.lemmas.Result.{err_from_is_err_and}
use Rattle.boundary.specs.Landing.{shape_of}
use Rattle.boundary.specs.Boundaries.{bad_range}
use Rattle.boundary.specs.AsWalked.{cell_verdict}
use Rattle.boundary.proofs.Asked.{asked}
use Rattle.boundary.proofs.Cells.{solid}
use Rattle.boundary.proofs.Verdicts.{ranged}
use Rattle.vec3d.specs.Frame.{bad_frame}
use Rattle.globe.specs.declared.Outline.{Outline}
use Rattle.globe.specs.declared.Outline.TheVariants.{Hexagon, Pentagon}
use Rattle.globe.specs.Boundaries.{sides_of, said_globe}
use Rattle.globe.specs.AsWorked.{within_of}
use Rattle.globe.proofs.Entering.{asked_said, frame_refused, cell_refused, within_is}
use Rattle.globe.proofs.sphere_boundary.Goals as goal
use Rattle.globe.proofs.sphere_boundary.Goals.{Else-bad_frame, After-cell_verdict}

five-or-six : (o : Outline) → (5 ≤ sides_of o) × (sides_of o ≤ 6)
five-or-six Hexagon = (omega arith, omega arith)
five-or-six Pentagon = (omega arith, omega arith)

pub returns-then-bad_frame : goal.returns-then-bad_frame
returns-then-bad_frame c =
    let a = c.args in
    ap said_globe (frame_refused (sides_of a.outline) _ _ _ _ _ (sym c.bad_frame.ensures ∙ c.if-bad_frame.true)) ∙
    asked_said (sides_of a.outline) _ _ _ _ _

-- past the test of the frame: what the cell's tests say
frame_fine : (c : Else-bad_frame) → bad_frame c.args.frame.now ≡ false
frame_fine c = sym c.bad_frame.ensures ∙ c.if-bad_frame.false

cell_is : (c : After-cell_verdict) → let a = c.args in cell_verdict a.centre a.level.0 (bad_range (sides_of a.outline) a.start a.length) ≡ c.cell_verdict.result
cell_is c =
    let a = c.args in
    sym (c.cell_verdict.ensures ∙ ap (λ (k : ℕ). cell_verdict a.centre a.level.0 (bad_range k a.start a.length)) c.sides-sides.ensures)

pub border-requires : goal.border-requires
border-requires c =
    let at = goal.at.border-requires c in
    let a = c.args in
    let t = asked a.centre a.level.0 (bad_range (sides_of a.outline) a.start a.length) (cell_is at.After-cell_verdict ∙ c.in_ok-cell_verdict.was) in
    let is = c.sides-sides.ensures in
    let o = five-or-six a.outline in
    let r = ranged (sides_of a.outline) a.start a.length t.ranged in
    (frame_fine at.Else-bad_frame, rw is (solid (sides_of a.outline) a.centre a.level.0 a.start _ c.made-cell.ensures t.on t.level o.0 o.1 r.0), rw is r.1)

pub returns-in_err-cell_verdict : goal.returns-in_err-cell_verdict
returns-in_err-cell_verdict c =
    let at = goal.at.returns-in_err-cell_verdict c in
    let a = c.args in
    let out = err_from_is_err_and c.from_residual.result c.from_residual.ensures.1 in
    rw (out.1, out.2)
    (ap said_globe (cell_refused (sides_of a.outline) _ _ _ _ _ (frame_fine at.Else-bad_frame) _ (cell_is at.After-cell_verdict ∙ c.in_err-cell_verdict.was)) ∙
    asked_said (sides_of a.outline) _ _ _ _ _)

pub returns : goal.returns
returns c =
    let at = goal.at.returns c in
    let a = c.args in
    ap said_globe
    (c.border.ensures ∙
    ((λ i. within_of a.frame.now (shape_of (c.sides-sides.ensures i) (c.made-cell.ensures i) a.start) a.length) ∙
    within_is (sides_of a.outline) _ _ _ _ _ (frame_fine at.Else-bad_frame) (cell_is at.After-cell_verdict ∙ c.in_ok-cell_verdict.was))) ∙
    asked_said (sides_of a.outline) _ _ _ _ _
