-- `Shape::hexagon_before` meets its contract: each return by its tests. Assumes nothing.
use mathlib.Core.Path.{◌∙◌, sym, ap}
use Prim.Native.Nat.{ℕ}
use Rattle.boundary.specs.CrossingPoints.{hexagon_crossing}
use Rattle.boundary.proofs.Needed.{not_needed, hexagon_needed}
use Rattle.boundary.proofs.Shape.hexagon_before.Goals as goal

pub returns-then-bare : goal.returns-then-bare
returns-then-bare c =
    let a = c.args in
    not_needed a.self a.k a.last a.now (sym c.bare.ensures ∙ c.if-bare.true)

pub returns : goal.returns
returns c =
    let a = c.args in
    c.hexagon_crossing.ensures ∙
    (ap (λ (v : ℕ). hexagon_crossing a.self.cell a.last a.now.place.face v) c.vertex.ensures ∙
    hexagon_needed a.self a.k a.last a.now (sym c.bare.ensures ∙ c.if-bare.false) c.requires.2)
