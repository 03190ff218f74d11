-- `met` meets its contract: eight doubles are two lines. Assumes nothing.
use borrow.Author.Tests.{eq-eqb, ne_eqb}
use mathlib.Core.Path.{◌≡◌, ◌∙◌}
use Rattle.vec2d.specs.declared.Line.{Line}
use Rattle.vec2d.specs.Meeting.{meet_reply}
use Rattle.lent_grid.proofs.met.Goals as goal

asked : {a b c d : Line} → a ≡ b → c ≡ d → meet_reply a c ≡ meet_reply b d
asked e f = λ n. meet_reply (e n) (f n)

pub returns-then-lines-ne8 : goal.returns-then-lines-ne8
returns-then-lines-ne8 c = simp (ne_eqb _ 8 c.if-lines-ne8.true)

pub returns : goal.returns
returns c =
    simp (eq-eqb _ 8 c.if-lines-ne8.false)
    (c.meet.ensures ∙ asked c.line_at.ensures c.line_at-2.ensures)
