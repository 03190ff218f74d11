-- `number` meets its contract: at most ten digits, which 64 bits hold. Assumes nothing.
use Rattle.std.proofs.Common.{rules, ◌≡◌, sym, ◌∙◌, Some, None, arith}
use Rattle.std.proofs.lemmas.Bool.Decides.{nat_tests}
use Rattle.std.proofs.lemmas.Grind.{common_steps}
use Rattle.ask_read.specs.Words.{spelt, number_from, number_field}
use Rattle.ask_read.proofs.number.Goals as goal

pub returns-in_err-value : goal.returns-in_err-value
unfolding number_field
returns-in_err-value c =
    let e : spelt 10 0 c.args.s.now ≡ None = sym c.spell.ensures ∙ c.in_err-value.was in
    rw (← c.is_plain-shaped.ensures, c.if-s-shaped.true, e) (search rules)

pub returns-then-s-shaped : goal.returns-then-s-shaped
unfolding number_field number_from
returns-then-s-shaped c =
    let e : spelt 10 0 c.args.s.now ≡ Some c.in_ok-value.value = sym c.spell.ensures ∙ c.in_ok-value.was in
    rw (← c.is_plain-shaped.ensures, c.if-s-shaped.true, e) (grind (arith, nat_tests, common_steps))

pub returns : goal.returns
unfolding number_field
returns c = rw (← c.is_plain-shaped.ensures, c.if-s-shaped.false)
