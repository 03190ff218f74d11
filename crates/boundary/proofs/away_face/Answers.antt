-- `away_face` meets its contract: each return by its test. Assumes nothing.
use borrow.Author.Tests.{eq-eqb, ne_eqb}
use Rattle.boundary.specs.CrossingPoints.{away_face}
use Rattle.boundary.proofs.away_face.Goals as goal

pub returns-then-last-home : goal.returns-then-last-home
unfolding away_face
returns-then-last-home c = rw (eq-eqb _ _ c.if-last-home.true)

pub returns-else-last-home : goal.returns-else-last-home
unfolding away_face
returns-else-last-home c = rw (ne_eqb _ _ c.if-last-home.false)
