-- `bad_room` meets its contract. Assumes nothing.
use Rattle.region_write.proofs.Room.{too_short, by_records}
use Rattle.region_write.proofs.bad_room.Goals as goal

pub returns-then-outs-lt-TAIL : goal.returns-then-outs-lt-TAIL
returns-then-outs-lt-TAIL c = too_short _ _ c.if-outs-lt-TAIL.true

pub returns : goal.returns
returns c = by_records _ _ c.if-outs-lt-TAIL.false
