-- `one_more` meets its contract: by whether there is a line, and whether it fits. Assumes nothing.
use mathlib.Core.Path.{sym, ◌∙◌}
use Rattle.walk.specs.Writing.{wrote}
use Rattle.walk.proofs.Writing.{stops, none_left}
use Rattle.walk.proofs.one_more.Goals as goal

pub returns-then-at-end : goal.returns-then-at-end
returns-then-at-end c =
    wrote (sym c.next_line-step.ensures ∙ c.in-Some.is) c.put_line-end.ensures c.if-at-end.true

pub returns-else-at-end : goal.returns-else-at-end
returns-else-at-end c =
    let a = c.args in
    stops a.w a.buf.now _ _ (sym c.next_line-step.ensures ∙ c.in-Some.is) c.put_line-end.ensures c.if-at-end.false

pub returns-in-None : goal.returns-in-None
returns-in-None c =
    let a = c.args in
    none_left a.w a.buf.now (sym c.next_line-step.ensures ∙ c.in-None.is)
