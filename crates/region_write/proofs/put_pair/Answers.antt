-- `put_pair` meets its contract. Assumes nothing.
use Rattle.region_write.proofs.Putting.{pair_put}
use Rattle.region_write.proofs.put_pair.Goals as goal

pub returns : goal.returns
returns c = rw (c.put_word-2.ensures, c.put_word.ensures) (pair_put _ _ _ _)
