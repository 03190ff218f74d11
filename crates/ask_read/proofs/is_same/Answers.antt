-- `is_same` meets its contract: what the library's comparison says. Assumes nothing.
use mathlib.Core.Path.{◌∙◌}
use Rattle.ask_read.proofs.Spelling.{compared}
use Rattle.ask_read.proofs.is_same.Goals as goal

pub returns : goal.returns
returns c = c.eq.ensures ∙ compared c.args.s.now c.args.t.now
