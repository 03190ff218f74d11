-- `begin` meets its contract: by what the line says. Assumes nothing.
use mathlib.Core.Path.{sym, ap, ◌∙◌}
use Rattle.walk.specs.Texts.{begun_from}
use Rattle.walk.proofs.begin.Goals as goal

pub returns-in-Some : goal.returns-in-Some
returns-in-Some c =
    let r = c.read_line-reading in
    record { reading = r.result; read = r.ensures; state = c.begin_at.ensures ∙ ap begun_from (sym c.in-Some.is) }

pub returns-in-None : goal.returns-in-None
returns-in-None c =
    let r = c.read_line-reading in
    record { reading = r.result; read = r.ensures; state = ap begun_from (sym c.in-None.is) }
