-- `next_line` meets its contract: by the state. Assumes nothing.
use mathlib.Core.Path.{sym, ap, ◌∙◌}
use Rattle.walk.specs.Texts.{step_of}
use Rattle.walk.proofs.next_line.Goals as goal

pub returns-in-Starting : goal.returns-in-Starting
returns-in-Starting c = ap step_of (sym c.in-Starting.is)

pub returns-in-Walking : goal.returns-in-Walking
returns-in-Walking c = c.walking_step.ensures ∙ ap step_of (sym c.in-Walking.is)

pub returns-in-Refusing : goal.returns-in-Refusing
returns-in-Refusing c = ap step_of (sym c.in-Refusing.is)
