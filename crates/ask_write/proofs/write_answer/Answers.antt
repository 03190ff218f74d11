-- `write_answer` meets its contract: the values or the refusal. Assumes nothing.
use borrow.Author.Tests.{eq-eqb, ne_eqb}
use native.Mathlib.Omega.{arith}
use Rattle.ask_write.specs.Texts.{answer_text}
use Rattle.text.proofs.Room.{in_room}
use Rattle.ask_write.proofs.write_answer.Goals as goal

pub returns-then-number-eq0 : goal.returns-then-number-eq0
unfolding answer_text
returns-then-number-eq0 c =
    let p = c.write_values.ensures in
    rw (eq-eqb c.args.a.number 0 c.if-number-eq0.true)
    (in_room (λ x. x.now) c.args.buf.now 1300 c.first_chunk_mut.result c.in-Some.room c.first_chunk_mut.ensures.cases c.in-Some.is (omega (arith, p.1, p.0.end)) p.0)

pub write_refused-requires : goal.write_refused-requires
write_refused-requires c = (omega arith, omega (arith, c.if-number-eq0.false))

pub returns : goal.returns
unfolding answer_text
returns c =
    let p = c.write_refused.ensures in
    rw (ne_eqb c.args.a.number 0 c.if-number-eq0.false)
    (in_room (λ x. x.now) c.args.buf.now 1300 c.first_chunk_mut.result c.in-Some.room c.first_chunk_mut.ensures.cases c.in-Some.is (omega (arith, p.1, p.0.end)) p.0)
