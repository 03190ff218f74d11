-- `put_spaced` meets its contract: a space, then the number. Assumes nothing.
use Rattle.text.specs.Numbers.{field}
use Rattle.text.proofs.Putting.{put_then}
use Rattle.text.proofs.put_spaced.Goals as goal

-- `put_spaced` meets its contract: a space, then the number. Assumes nothing.
pub returns : goal.returns
unfolding field
returns c = put_then c.put_byte-next.ensures c.put_number.ensures
