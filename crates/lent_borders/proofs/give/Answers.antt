-- `give` meets its contract: a slice that is too short, a refusal, an answer that is stored. Assumes nothing.
use mathlib.Core.Path.{refl, ap, ◌∙◌}
use mathlib.Core.List.{List, ◌++◌}
use Prim.Native.Nat.{ℕ}
use lib.ListN.{drop}
use Rattle.std.specs.Prelude.{Ok, Err, false}
use Rattle.std.proofs.lemmas.Result.{err_from_is_err_and}
use Rattle.reply.specs.declared.Refusal.TheVariants.{BadRows}
use Rattle.boundary.specs.Boundaries.{said_boundary}
use Rattle.lent.specs.Lent.{bits_of}
use Rattle.lent.proofs.Lent.{bits_written}
use Rattle.lent.proofs.Chunk.{chunk, no_chunk}
use Rattle.lent.proofs.Both.{other_short, both_answers, both_refuses}
use Rattle.lent_borders.specs.Borders.{marks_of, points_of}
use Rattle.lent_borders.proofs.give.Goals as goal

pub returns-in_err-pointed : goal.returns-in_err-pointed
returns-in_err-pointed c =
    let a = c.args in
    let r = said_boundary a.border in
    let e = err_from_is_err_and c.from_residual-in_err-pointed.result c.from_residual-in_err-pointed.ensures.1 in
    let k = chunk (λ x. x.now) a.marks.now 25 c.first_chunk_mut.result BadRows c.in_ok-marked.marked c.first_chunk_mut.ensures.cases c.in_ok-marked.ensures.value in
    let few = no_chunk (λ x. x.now) a.points.now 24 c.first_chunk_mut-2.result BadRows c.in_err-pointed.field-0.0 c.first_chunk_mut-2.ensures.cases c.in_err-pointed.ensures.value in
    rw (e.1, e.2, few.1, k.1) (other_short false r 25 (marks_of r.values) a.marks.now 24 (points_of r.values) a.points.now few.0)

pub returns-in_err-border : goal.returns-in_err-border
returns-in_err-border c =
    let a = c.args in
    let r = said_boundary (Err c.in_err-border.field-0.0) in
    let e = err_from_is_err_and c.from_residual-in_err-border.result c.from_residual-in_err-border.ensures.1 in
    let k = chunk (λ x. x.now) a.marks.now 25 c.first_chunk_mut.result BadRows c.in_ok-marked.marked c.first_chunk_mut.ensures.cases c.in_ok-marked.ensures.value in
    let h = chunk (λ x. x.now) a.points.now 24 c.first_chunk_mut-2.result BadRows c.in_ok-pointed.pointed c.first_chunk_mut-2.ensures.cases c.in_ok-pointed.ensures.value in
    rw (e.1, e.2, k.1, h.1, c.in_err-border.was) (both_refuses false r 25 (marks_of r.values) a.marks.now 24 (points_of r.values) a.points.now refl k.0 h.0 c.in_err-border.field-0.0 refl)

pub returns : goal.returns
returns c =
    let a = c.args in
    let r = said_boundary (Ok c.in_ok-border.border) in
    let k = chunk (λ x. x.now) a.marks.now 25 c.first_chunk_mut.result BadRows c.in_ok-marked.marked c.first_chunk_mut.ensures.cases c.in_ok-marked.ensures.value in
    let h = chunk (λ x. x.now) a.points.now 24 c.first_chunk_mut-2.result BadRows c.in_ok-pointed.pointed c.first_chunk_mut-2.ensures.cases c.in_ok-pointed.ensures.value in
    rw c.in_ok-border.was
    (both_answers false r 25 (marks_of r.values) a.marks.now 24 (points_of r.values) a.points.now refl k.0 h.0 _ _ refl
    (ap (λ (l : List ℕ). l ++ drop 25 a.marks.now) c.put_marks.ensures)
    (bits_written 24 c.put_points.new.out a.points.now _ refl ∙ ap (λ (l : List ℕ). l ++ drop 24 (bits_of a.points.now)) c.put_points.ensures))
