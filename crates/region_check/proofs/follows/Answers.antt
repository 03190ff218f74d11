-- `follows` meets its contract: each return by the tests that lead to it. Assumes nothing.
use mathlib.Core.Path.{sym, ◌∙◌}
use borrow.Author.Tests.{eq-eqb, ne_eqb}
use Rattle.region_check.specs.Sound.{follows}
use Rattle.region_check.proofs.follows.Goals as goal

pub returns-then-wrong_place : goal.returns-then-wrong_place
unfolding follows
returns-then-wrong_place c = rw (sym c.wrong_place.ensures ∙ c.if-wrong_place.true)

pub returns-then-n-eq0 : goal.returns-then-n-eq0
unfolding follows
returns-then-n-eq0 c = rw (sym c.wrong_place.ensures ∙ c.if-wrong_place.false, eq-eqb _ _ c.if-n-eq0.true)

pub returns : goal.returns
unfolding follows
returns c = rw (sym c.wrong_place.ensures ∙ c.if-wrong_place.false, ne_eqb _ _ c.if-n-eq0.false, c.is_before.ensures)
