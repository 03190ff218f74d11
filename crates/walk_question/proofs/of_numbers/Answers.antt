-- `of_numbers` meets its contract: a question where the numbers are short. Assumes nothing.
use Rattle.walk_question.specs.Fields.{of_numbers}
use Rattle.walk_question.proofs.Asking.{good}
use Rattle.walk_question.proofs.of_numbers.Goals as goal

pub returns-then-n : goal.returns-then-n
returns-then-n c = good c.args.n c.new-place.result c.new-place.ensures c.if-n.true

pub returns : goal.returns
unfolding of_numbers
returns c = simp c.if-n.false
