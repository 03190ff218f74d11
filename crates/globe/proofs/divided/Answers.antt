-- `divided` meets its contract: three divisions. Assumes nothing.
use Rattle.globe.specs.Points.{divided_by}
use Rattle.globe.proofs.divided.Goals as goal

pub returns : goal.returns
unfolding divided_by
returns c = c.new.ensures
