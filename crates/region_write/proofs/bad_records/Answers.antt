-- `bad_records` meets its contract. Assumes nothing.
use borrow.Author.Tests.{lt-ltb, le-ltb}
use Rattle.std.proofs.Common.{rules, tests}
use Rattle.region_write.specs.Signed.{place_in}
use Rattle.region_write.specs.Writing.{bad_records}
use Rattle.region_write.proofs.bad_records.Goals as goal

pub returns-then-count-gt-MOST : goal.returns-then-count-gt-MOST
unfolding bad_records
returns-then-count-gt-MOST c = rw (lt-ltb _ _ c.if-count-gt-MOST.true)

pub returns : goal.returns
unfolding bad_records
returns c = rw (le-ltb _ _ c.if-count-gt-MOST.false, c.all_sound.ensures (place_in c.args.rows.now) (λ n p l e. search (rules, tests)))
