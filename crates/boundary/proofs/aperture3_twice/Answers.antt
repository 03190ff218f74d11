-- `aperture3_twice` meets its contract: the two apertures make three times the triple. Assumes nothing.
use mathlib.Core.Path.{◌∙◌}
use Rattle.boundary.proofs.Apertures.{tripled}
use Rattle.boundary.proofs.aperture3_twice.Goals as goal

pub returns : goal.returns
returns c = c.new.ensures ∙ tripled c.args.c c.requires
