-- `Cell::corner` meets its contract: the offset is small, and its sums are reduced. Assumes nothing.
use mathlib.Core.Path.{ap, ◌∙◌}
use Rattle.coordijk.specs.declared.CoordIJK.{CoordIJK}
use Rattle.coordijk.specs.Coordinates.{reduced}
use Rattle.faceijk.specs.Places.{coord_of}
use Rattle.boundary.specs.Corners.{shifted_by, corner_of}
use Rattle.boundary.proofs.Cell.corner.Goals as goal

pub returns : goal.returns
unfolding corner_of
returns c =
    c.reduce.ensures ∙
    (ap (λ (d : CoordIJK). reduced d.i d.j d.k) c.new.ensures ∙
    ap (shifted_by (coord_of c.args.self.centre)) c.offset-o.ensures)
