-- `wrong_length` meets its contract. Assumes nothing.
use borrow.Author.Tests.{lt-ltb, le-ltb}
use Rattle.region.specs.Lists.{wrong_length}
use Rattle.region.proofs.wrong_length.Goals as goal

pub returns-then-list-lt-TAIL : goal.returns-then-list-lt-TAIL
unfolding wrong_length
returns-then-list-lt-TAIL c = rw (lt-ltb _ _ c.if-list-lt-TAIL.true)

pub returns : goal.returns
unfolding wrong_length
returns c = rw (le-ltb _ _ c.if-list-lt-TAIL.false, ← c.count_of-count.ensures.0)
