-- `put_place` meets its contract. Assumes nothing.
use Rattle.region_write.proofs.Putting.{place_put}
use Rattle.region_write.proofs.put_place.Goals as goal

pub returns : goal.returns
returns c = rw (c.put_pair-2.ensures, c.put_pair.ensures) (place_put _ _ _)
