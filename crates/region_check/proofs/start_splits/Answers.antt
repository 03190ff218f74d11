-- `start_splits` meets its contract. Assumes nothing.
use borrow.Author.Tests.{lt-ltb, le-ltb}
use Rattle.region_check.specs.Starts.{splits}
use Rattle.region_check.proofs.start_splits.Goals as goal

pub returns-then-count-start : goal.returns-then-count-start
unfolding splits
returns-then-count-start c = rw (lt-ltb _ _ (rw c.start_of-start.ensures at c.if-count-start.true))

pub returns : goal.returns
unfolding splits
returns c = rw (le-ltb _ _ (rw c.start_of-start.ensures at c.if-count-start.false), c.lower_before.ensures, c.none_lower.ensures, c.start_of-start.ensures)
