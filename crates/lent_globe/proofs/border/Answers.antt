-- `border` meets its contract: a slice that is too short, a refusal, an answer that is stored. Assumes nothing.
use mathlib.Core.Path.{◌≡◌, refl, ap, ◌∙◌}
use mathlib.Core.List.{List, ◌++◌}
use Prim.Native.Nat.{ℕ}
use native.Mathlib.Omega.{arith}
use lib.ListN.{drop}
use Rattle.std.specs.Prelude.{Ok, Err}
use Rattle.std.proofs.lemmas.Result.{err_from_is_err_and}
use Rattle.reply.specs.Replies.{Reply}
use Rattle.vec3d.specs.Frame.{bad_frame}
use Rattle.globe.specs.Boundaries.{sides_of, said_globe, globe_reply}
use Rattle.lent.specs.Lent.{bits_of}
use Rattle.lent.proofs.Lent.{bits_written}
use Rattle.lent.proofs.Chunk.{found}
use Rattle.lent.proofs.Both.{other_short, both_answers, both_refuses}
use Rattle.lent_globe.specs.Globes.{marks_of, vectors_of}
use Rattle.lent_globe.proofs.Framed.{frame_first}
use Rattle.lent_globe.proofs.border.Goals as goal

pub returns-in_default-first_chunk_mut : goal.returns-in_default-first_chunk_mut
returns-in_default-first_chunk_mut c =
    let a = c.args in
    let r = globe_reply (sides_of a.outline) a.frame.now a.centre a.level a.start a.length in
    let k = found (λ x. x.now) a.marks.now 25 c.first_chunk_mut.result c.in-Some.marked c.first_chunk_mut.ensures.cases c.in-Some.is in
    rw (c.frame_or_rows-in_default-first_chunk_mut.ensures, k.1) (other_short (bad_frame a.frame.now) r 25 (marks_of r.values) a.marks.now 36 (vectors_of r.values) a.points.now (grind arith))

pub returns-in_err-border : goal.returns-in_err-border
returns-in_err-border c =
    let a = c.args in
    let r = globe_reply (sides_of a.outline) a.frame.now a.centre a.level a.start a.length in
    let said = frame_first (sides_of a.outline) a.frame.now a.centre a.level a.start a.length in
    let e = err_from_is_err_and c.from_residual.result c.from_residual.ensures.1 in
    let k = found (λ x. x.now) a.marks.now 25 c.first_chunk_mut.result c.in-Some.marked c.first_chunk_mut.ensures.cases c.in-Some.is in
    let h = found (λ x. x.now) a.points.now 36 c.first_chunk_mut-2.result c.in-Some-first_chunk_mut.pointed c.first_chunk_mut-2.ensures.cases c.in-Some-first_chunk_mut.is in
    let made : said_globe (Err c.in_err-border.field-0.0) ≡ r = c.in_err-border.ensures in
    rw (e.1, e.2, k.1, h.1)
    (both_refuses (bad_frame a.frame.now) r 25 (marks_of r.values) a.marks.now 36 (vectors_of r.values) a.points.now said k.0 h.0 c.in_err-border.field-0.0 (ap (λ (y : Reply). y.number) made))

pub returns : goal.returns
returns c =
    let a = c.args in
    let r = globe_reply (sides_of a.outline) a.frame.now a.centre a.level a.start a.length in
    let said = frame_first (sides_of a.outline) a.frame.now a.centre a.level a.start a.length in
    let k = found (λ x. x.now) a.marks.now 25 c.first_chunk_mut.result c.in-Some.marked c.first_chunk_mut.ensures.cases c.in-Some.is in
    let h = found (λ x. x.now) a.points.now 36 c.first_chunk_mut-2.result c.in-Some-first_chunk_mut.pointed c.first_chunk_mut-2.ensures.cases c.in-Some-first_chunk_mut.is in
    let made : said_globe (Ok c.in_ok-border.border) ≡ r = c.in_ok-border.ensures in
    both_answers (bad_frame a.frame.now) r 25 (marks_of r.values) a.marks.now 36 (vectors_of r.values) a.points.now said k.0 h.0 _ _ (ap (λ (y : Reply). y.number) made)
    (ap (λ (l : List ℕ). l ++ drop 25 a.marks.now) (c.put_marks.ensures ∙ ap (λ (y : Reply). marks_of y.values) made))
    (bits_written 36 c.put_vectors.new.out a.points.now _ refl ∙ ap (λ (l : List ℕ). l ++ drop 36 (bits_of a.points.now)) (c.put_vectors.ensures ∙ ap (λ (y : Reply). vectors_of y.values) made))
