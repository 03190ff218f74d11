-- `place_in` meets its contract. Assumes nothing.
use Rattle.region_write.specs.Signed.{place_in}
use Rattle.region_write.proofs.place_in.Goals as goal

pub returns : goal.returns
unfolding place_in
returns c = cc
