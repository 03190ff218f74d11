-- `is_before` meets its contract: each return by the tests that lead to it. Assumes nothing.
use borrow.Author.Tests.{eq-eqb, ne_eqb}
use Rattle.region.specs.Places.{before}
use Rattle.region.proofs.is_before.Goals as goal

pub returns-then-p-q : goal.returns-then-p-q
unfolding before
returns-then-p-q c = rw (ne_eqb _ _ c.if-p-q.true)

pub returns-then-p-q-2 : goal.returns-then-p-q-2
unfolding before
returns-then-p-q-2 c = rw (eq-eqb _ _ c.if-p-q.false, ne_eqb _ _ c.if-p-q-2.true)

pub returns-then-p-q-3 : goal.returns-then-p-q-3
unfolding before
returns-then-p-q-3 c =
    rw (eq-eqb _ _ c.if-p-q.false, eq-eqb _ _ c.if-p-q-2.false, ne_eqb _ _ c.if-p-q-3.true)

pub returns : goal.returns
unfolding before
returns c =
    rw (eq-eqb _ _ c.if-p-q.false, eq-eqb _ _ c.if-p-q-2.false, eq-eqb _ _ c.if-p-q-3.false)
