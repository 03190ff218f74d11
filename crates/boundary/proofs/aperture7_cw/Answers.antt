-- `aperture7_cw` meets its contract: the sums are those of the table. Assumes nothing.
use mathlib.Core.Path.{ap, ◌∙◌}
use Rattle.coordijk.specs.declared.CoordIJK.{CoordIJK}
use Rattle.coordijk.specs.Coordinates.{reduced}
use Rattle.boundary.proofs.Apertures.{seven}
use Rattle.boundary.proofs.aperture7_cw.Goals as goal

pub returns : goal.returns
returns c = c.reduce.ensures ∙ (ap (λ (d : CoordIJK). reduced d.i d.j d.k) c.new.ensures ∙ seven _)
