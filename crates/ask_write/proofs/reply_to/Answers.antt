-- `reply_to` meets its contract: what is written is the text of the reply to the question that the line asks. Assumes nothing.
use Rattle.ask_write.proofs.Laws.{written}
use Rattle.ask_write.proofs.reply_to.Goals as goal

pub returns : goal.returns
returns c =
    let w = c.write_answer in
    let a = c.answer_to-answer in
    let q = c.read_question-q in
    written _ _ q.result a.result q.ensures a.ensures w.ensures
