-- `read_question` meets its contract: the first word names the question, the others are its fields. Assumes nothing.
use Rattle.ask_read.proofs.Splitting.{first_word}
use Rattle.ask_read.proofs.Filling.{whole_line}
use Rattle.ask_read.proofs.read_question.Goals as goal

pub returns : goal.returns
returns c =
    let line = c.args.line.now in
    let f = c.find-end in
    whole_line line f.result c.fill_named.result (first_word line f.result f.ensures.0) c.fill_named.ensures
