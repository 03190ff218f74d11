-- `take_field` meets its contract: the bytes up to the next space. Assumes nothing.
use Rattle.std.proofs.Common.{rules, ◌≡◌, sym, ◌∙◌, ap, None, arith}
use Rattle.ask_read.specs.Questions.{first_field, words_from}
use Rattle.ask_read.proofs.Splitting.{no_word, word_at}
use Rattle.ask_read.proofs.take_field.Goals as goal

pub returns-then-len-at : goal.returns-then-len-at
returns-then-len-at c = let a = c.args in rw (no_word a.line.now a.at c.if-len-at.true)

pub returns-in_err-field : goal.returns-in_err-field
returns-in_err-field c =
    let f = c.find-end in
    let a = c.args in
    let e = word_at a.line.now a.at f.result c.if-len-at.false f.ensures.0 in
    let g : first_field a.kind (words_from a.line.now a.at) ≡ None = ap (first_field a.kind) e ∙ (sym c.field_of.ensures ∙ c.in_err-field.was) in
    search rules

pub returns : goal.returns
returns c =
    let f = c.find-end in
    let a = c.args in
    let e = word_at a.line.now a.at f.result c.if-len-at.false f.ensures.0 in
    (rw e (sym c.field_of.ensures ∙ c.in_ok-field.was), rw e, omega (arith, f.ensures.1))
