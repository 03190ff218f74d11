-- `locate_all` meets its contract: the tests decide, and the rows are written into the part that is lent. Assumes nothing.
use mathlib.Core.Path.{sym, ◌∙◌}
use native.Mathlib.Omega.{arith}
use lib.ListN.{length, length-drop}
use Rattle.words.proofs.Placing.{lent}
use Rattle.locate.proofs.Writing.{ready}
use Rattle.locate.proofs.locate_all.Goals as goal

pub overflow_mul-start : goal.overflow_mul-start
overflow_mul-start c =
    let a = c.args in
    let able = ready a.frame.now a.level.0 (length a.input.now) (length a.out.now) a.first_row (sym c.batch_verdict.ensures ∙ c.in_ok-batch_verdict.was) in
    omega (arith, able.room)

pub offset_bounds-out-start : goal.offset_bounds-out-start
offset_bounds-out-start c =
    let a = c.args in
    let able = ready a.frame.now a.level.0 (length a.input.now) (length a.out.now) a.first_row (sym c.batch_verdict.ensures ∙ c.in_ok-batch_verdict.was) in
    omega (arith, able.room)

pub slice_bounds-write_rows-count : goal.slice_bounds-write_rows-count
slice_bounds-write_rows-count c =
    let a = c.args in
    let able = ready a.frame.now a.level.0 (length a.input.now) (length a.out.now) a.first_row (sym c.batch_verdict.ensures ∙ c.in_ok-batch_verdict.was) in
    omega (arith, able.room)

pub slice_bounds-write_rows-start : goal.slice_bounds-write_rows-start
slice_bounds-write_rows-start c =
    let a = c.args in
    let able = ready a.frame.now a.level.0 (length a.input.now) (length a.out.now) a.first_row (sym c.batch_verdict.ensures ∙ c.in_ok-batch_verdict.was) in
    omega (arith, able.room)

pub write_rows-refused-requires : goal.write_rows-refused-requires
write_rows-refused-requires c =
    let a = c.args in
    let able = ready a.frame.now a.level.0 (length a.input.now) (length a.out.now) a.first_row (sym c.batch_verdict.ensures ∙ c.in_ok-batch_verdict.was) in
    (able.passed, simp (lent, length-drop) (omega (arith, able.room)))
