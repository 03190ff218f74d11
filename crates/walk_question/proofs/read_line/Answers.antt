-- `read_line` meets its contract: the fields of `settle` without the newline, and what is read so is what the line asks. Assumes nothing.
use mathlib.Core.Path.{◌≡◌, refl, ap, ◌∙◌}
use native.Mathlib.Omega.{arith}
use lib.ListN.{length-take}
use Rattle.ask_read.specs.declared.Asked.{Asked}
use Rattle.ask_read.specs.declared.Asked.TheVariants.{Settle}
use Rattle.ask_read.specs.Questions.{settle_of}
use Rattle.walk_question.proofs.Asking.{settled, unsettled}
use Rattle.walk_question.proofs.read_line.Goals as goal

pub slice_bounds-read_settle-end : goal.slice_bounds-read_settle-end
slice_bounds-read_settle-end c = omega (arith, length-take c.without_end-len.result c.args.s.now, c.without_end-len.ensures.0)

pub returns-in-Settle : goal.returns-in-Settle
returns-in-Settle c =
    let w = c.without_end-len in
    let q = c.read_settle-q in
    settled c.args.s.now q.result (q.ensures ∙ ap settle_of w.ensures.1) c.of_numbers.result c.in-Settle.is c.of_numbers.ensures

pub returns-in_default : goal.returns-in_default
returns-in_default c =
    let w = c.without_end-len in
    let q = c.read_settle-q in
    unsettled c.args.s.now q.result (q.ensures ∙ ap settle_of w.ensures.1) (λ (x : Asked). x ≡ Settle → ⊥) c.in_default.not-Settle (λ h. h refl)
