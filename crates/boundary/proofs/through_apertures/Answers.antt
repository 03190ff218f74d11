-- `through_apertures` meets its contract: aperture 7 follows for Class III. Assumes nothing.
use mathlib.Core.Path.{ap, ◌∙◌}
use Rattle.coordijk.specs.declared.GridMap.TheVariants.{Aperture7Cw}
use Rattle.coordijk.specs.Maps.{map_of}
use Rattle.boundary.proofs.Apertures.{then_seven, upto_three}
use Rattle.boundary.proofs.through_apertures.Goals as goal

pub aperture7_cw-requires : goal.aperture7_cw-requires
aperture7_cw-requires c = upto_three _ _ c.aperture3_twice-q.ensures c.requires

pub returns-then-odd : goal.returns-then-odd
returns-then-odd c =
    rw c.if-odd.true
    (c.aperture7_cw.ensures ∙ (ap (map_of Aperture7Cw) c.aperture3_twice-q.ensures ∙ then_seven _))
