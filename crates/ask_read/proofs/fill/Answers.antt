-- `fill` meets its contract: what is left to fill, after the fields that stand, fills the same. Assumes nothing.
use Rattle.std.proofs.Common.{◌≡◌, ◌∙◌, arith, length-set, None}
use Rattle.std.proofs.lemmas.Option.{MatchOption-at_none}
use Rattle.ask_read.specs.Questions.{question, blank, filled, words_from}
use Rattle.std.proofs.lemmas.Grind.{common_steps}
use Rattle.ask_read.proofs.Splitting.{no_word, some_word}
use Rattle.ask_read.proofs.Filling.{next_field, no_field, one_too_many, all_there}
use Rattle.ask_read.specs.declared.Kind.TheVariants.{Number}
use Rattle.ask_read.proofs.fill.Goals as goal
use Rattle.ask_read.proofs.fill.Goals.{in-Number, in-Double}

pub returns-in_default : goal.returns-in_default
returns-in_default c =
    let l = c.loop-k in
    let a = c.args in
    let e : c.take_field.result ≡ None = grind (arith, common_steps) in
    c.unread.ensures ∙
    no_field a.kinds.now _ l.k (words_from a.line.now l.at) (question a.asked l.numbers l.doubles) (filled 0 a.kinds.now (words_from a.line.now a.from) (blank a.asked)) (omega arith) (MatchOption-at_none {o = c.take_field.result} _ _ e c.take_field.ensures) l.invariant.3

pub loop-k-preserved : goal.loop-k-preserved
loop-k-preserved c =
    let l = c.loop-k in
    let a = c.args in
    let t = c.in-Some.ensures in
    let next = next_field a.kinds.now _ l.k (words_from a.line.now l.at) (question a.asked l.numbers l.doubles) (filled 0 a.kinds.now (words_from a.line.now a.from) (blank a.asked)) c.in-Some.taken.field (omega arith) t.0 l.invariant.3 in
    elim c.match-taken.branch [
      | in-Number w ↦ rw (w.numbers-is, w.doubles-is, w.at-is) (t.2, length-set _ _ _ ∙ l.invariant.1, l.invariant.2, rw t.1 (rw w.in-Number.is at next))
      | in-Double w ↦ rw (w.numbers-is, w.doubles-is, w.at-is) (t.2, l.invariant.1, length-set _ _ _ ∙ l.invariant.2, rw t.1 (rw w.in-Double.is at next))
    ]

pub returns-then-at-line : goal.returns-then-at-line
returns-then-at-line c =
    let l = c.loop-k in
    let a = c.args in
    let ws = words_from a.line.now l.at in
    let z = filled 0 a.kinds.now (words_from a.line.now a.from) (blank a.asked) in
    c.unread-then-at-line.ensures ∙
    one_too_many a.kinds.now Number l.k ws (question a.asked l.numbers l.doubles) z _ _ (omega arith) (some_word a.line.now l.at c.if-at-line.true) l.invariant.3

pub returns : goal.returns
returns c =
    let l = c.loop-k in
    let a = c.args in
    let ws = words_from a.line.now l.at in
    let z = filled 0 a.kinds.now (words_from a.line.now a.from) (blank a.asked) in
    all_there a.kinds.now Number l.k ws (question a.asked l.numbers l.doubles) z (omega arith) (no_word a.line.now l.at c.if-at-line.false) l.invariant.3
