-- `Cell::corners` meets its contract: six corners. Assumes nothing.
use Rattle.boundary.specs.Corners.{six_corners}
use Rattle.boundary.proofs.Cell.corners.Goals as goal

pub returns : goal.returns
unfolding six_corners
returns c =
    rw (
      c.corner-6.ensures,
      c.corner-5.ensures,
      c.corner-4.ensures,
      c.corner-3.ensures,
      c.corner-2.ensures,
      c.corner.ensures,
    )
