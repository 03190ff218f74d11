-- `nearest_face` meets its contract: the frame is tested first, then the vector. Assumes nothing.
use borrow.Author.Tests.{ne_eqb}
use mathlib.Core.Path.{◌≡◌, sym, ap, ◌∙◌}
use mathlib.Core.Bool.{false}
use Rattle.std.proofs.Common.{rules, tests}
use Rattle.std.proofs.lemmas.Result.{err_from_is_err_and}
use Rattle.reply.specs.Replies.{answer, fine}
use Rattle.reply.proofs.Entries.{answers, refuses}
use Rattle.vec3d.specs.declared.Nearest.{Nearest}
use Rattle.vec3d.specs.Vectors.{vector_verdict}
use Rattle.vec3d.specs.Frame.{bad_frame}
use Rattle.vec3d.specs.Nearest.{nearest_values}
use Rattle.vec3d.specs.AsAsked.{unfit}
use Rattle.vec3d.proofs.OnePass.{by_faces}
use Rattle.vec3d.proofs.Doubt.{no_doubt}
use Rattle.vec3d.proofs.nearest_face.Goals as goal
use Rattle.vec3d.proofs.nearest_face.Goals.{then-looked+else-some_fails, else-looked}

pub returns-then-frame-ne180 : goal.returns-then-frame-ne180
unfolding bad_frame
returns-then-frame-ne180 c = rw (ne_eqb _ _ c.if-frame-ne180.true)

pub returns-then-some_fails : goal.returns-then-some_fails
returns-then-some_fails c =
    let long = c.if-frame-ne180.false in
    rw (by_faces _ long ∙ sym (c.some_fails.ensures (unfit c.args.frame.now) (λ f b l e. search (rules, tests))) ∙ c.if-some_fails.true)

pub returns-in_err-verdict : goal.returns-in_err-verdict
returns-in_err-verdict c =
    let long = c.if-frame-ne180.false in
    -- past the tests of the frame: no face was doubtful, or none of them unfit
    let framed : bad_frame c.args.frame.now ≡ false =
    elim c.if-looked.branch [
      | then-looked+else-some_fails w ↦ by_faces _ long ∙ sym (w.some_fails.ensures (unfit c.args.frame.now) (λ f b l e. search (rules, tests))) ∙ w.if-some_fails.false
      | else-looked w ↦ no_doubt _ long (sym c.look-looked.ensures.0 ∙ w.if-looked.false)
    ] in
    let out = err_from_is_err_and c.from_residual.result c.from_residual.ensures.1 in
    rw (out.1, out.2, framed) (refuses 2 (vector_verdict c.args.p) _ _ (sym c.verdict.ensures ∙ c.in_err-verdict.was))

pub returns : goal.returns
returns c =
    let long = c.if-frame-ne180.false in
    -- past the tests of the frame: no face was doubtful, or none of them unfit
    let framed : bad_frame c.args.frame.now ≡ false =
    elim c.if-looked.branch [
      | then-looked+else-some_fails w ↦ by_faces _ long ∙ sym (w.some_fails.ensures (unfit c.args.frame.now) (λ f b l e. search (rules, tests))) ∙ w.if-some_fails.false
      | else-looked w ↦ no_doubt _ long (sym c.look-looked.ensures.0 ∙ w.if-looked.false)
    ] in
    let p = c.args.p in
    let clear : vector_verdict p ≡ fine = sym c.verdict.ensures ∙ c.in_ok-verdict.was in
    rw framed (answers 2 (vector_verdict p) _ _ clear (ap (λ (n : Nearest). answer (nearest_values n)) (c.look-looked.ensures.1 framed clear)))
