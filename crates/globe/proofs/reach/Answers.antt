-- `reach` meets its contract: what it calls, one after another. Assumes nothing.
use Rattle.globe.specs.Points.{share_of, reached_of}
use Rattle.globe.proofs.reach.Goals as goal

pub returns : goal.returns
unfolding reached_of share_of
returns c =
    rw (
      c.new.ensures,
      c.along-3.ensures,
      c.along-2.ensures,
      c.along.ensures,
      c.dot-square.ensures,
    )
