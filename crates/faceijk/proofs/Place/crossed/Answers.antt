-- `Place::crossed` meets its contract: each return is a case of a crossing. Assumes nothing.
use mathlib.Core.Path.{◌∙◌, sym}
use native.Mathlib.Omega.{arith}
use Rattle.faceijk.proofs.Crossing.{stays_on_edge, stays, goes}
use Rattle.faceijk.proofs.Place.crossed.Goals as goal

pub returns-then-on_edge : goal.returns-then-on_edge
returns-then-on_edge c = c.landing.ensures ∙ stays_on_edge _ _ _ _ c.on_edge.ensures c.if-on_edge.true

pub returns-then-on_edge-2 : goal.returns-then-on_edge-2
returns-then-on_edge-2 c =
    c.landing-then-on_edge-2.ensures ∙
    goes _ _ _ _ c.on_edge.ensures
    c.if-on_edge.false (omega (arith, c.from.ensures)) _ _ c.out-next.ensures
    (sym c.if-on_edge-2.true ∙ c.on_edge-then-from-sum.ensures)

pub returns-then-from-sum : goal.returns-then-from-sum
returns-then-from-sum c =
    c.landing-then-from-sum.ensures ∙
    goes _ _ _ _ c.on_edge.ensures
    c.if-on_edge.false (omega (arith, c.from.ensures)) _ _ c.out-next.ensures
    (sym c.if-on_edge-2.false ∙ c.on_edge-then-from-sum.ensures)

pub returns : goal.returns
returns c =
    c.landing-2.ensures ∙
    stays _ _ _ _ c.on_edge.ensures c.if-on_edge.false (omega (arith, c.from.ensures))
