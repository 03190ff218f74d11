-- `read_settle` meets its contract: all words of the line are fields. Assumes nothing.
use Rattle.ask_read.specs.Questions.{row_at}
use Rattle.ask_read.proofs.Splitting.{all_words}
use Rattle.ask_read.proofs.read_settle.Goals as goal

pub returns : goal.returns
unfolding row_at
returns c = rw (← (all_words c.args.line.now)) c.fill.ensures
