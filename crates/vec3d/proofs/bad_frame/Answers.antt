-- `bad_frame` meets its contract: the length is tested first, then each face, part by part where one is doubtful. Assumes nothing.
use mathlib.Core.Path.{◌∙◌, sym}
use borrow.Author.Tests.{ne_eqb}
use Rattle.std.proofs.Common.{rules, tests}
use Rattle.vec3d.specs.Frame.{bad_frame}
use Rattle.vec3d.specs.AsAsked.{unfit, doubtful}
use Rattle.vec3d.proofs.OnePass.{by_faces}
use Rattle.vec3d.proofs.Doubt.{no_doubt}
use Rattle.vec3d.proofs.bad_frame.Goals as goal

pub returns-then-frame-ne180 : goal.returns-then-frame-ne180
unfolding bad_frame
returns-then-frame-ne180 c = rw (ne_eqb _ _ c.if-frame-ne180.true)

pub returns-then-some_fails : goal.returns-then-some_fails
returns-then-some_fails c =
    c.some_fails-then-some_fails.ensures (unfit c.args.frame.now) (λ f b l e. search (rules, tests)) ∙ sym (by_faces _ c.if-frame-ne180.false)

pub returns : goal.returns
returns c =
    let asked = c.some_fails.ensures (doubtful c.args.frame.now) (λ f b l e. search (rules, tests)) in
    sym (no_doubt _ c.if-frame-ne180.false (sym asked ∙ c.if-some_fails.false))
