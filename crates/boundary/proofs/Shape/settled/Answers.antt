-- `Shape::settled` meets its contract: a pentagon's corner is taken, and lands so. Assumes nothing.
use mathlib.Core.Bool.{true}
use Rattle.faceijk.proofs.Taking.{sound_at}
use Rattle.boundary.specs.Landing.{land_at, land_from}
use Rattle.boundary.proofs.Landing.{vertex_low, corner_okay}
use Rattle.boundary.proofs.Shape.settled.Goals as goal

pub settled-requires : goal.settled-requires
settled-requires c =
    let f = c.requires.0 in (
      rw c.corner.ensures (corner_okay c.args.self _ f (vertex_low c.args.self c.args.k f.solid)),
      rw f.solid.grid (sound_at c.args.self.cell.level.0 true f.solid.level),
    )

pub returns : goal.returns
unfolding land_at land_from
returns c =
    rw (c.rested.ensures, c.settled.ensures, c.corner.ensures, c.requires.0.solid.grid, c.requires.2)
