-- `Shape::before` meets its contract: each return by its tests. Assumes nothing.
use mathlib.Core.Bool.{true}
use mathlib.Core.Path.{◌∙◌, sym, ap}
use Prim.Native.Nat.{ℕ}
use Rattle.vec2d.specs.Centre.{centre_of}
use Rattle.faceijk.proofs.Taking.{sound_at}
use Rattle.boundary.specs.CrossingPoints.{hexagon_crossing}
use Rattle.boundary.proofs.Landing.{six}
use Rattle.boundary.proofs.Needed.{not_needed, hexagon_needed, pentagon_needed}
use Rattle.boundary.proofs.Shape.before.Goals as goal

pub returns-then-bare : goal.returns-then-bare
returns-then-bare c =
    let a = c.args in
    not_needed a.self a.k a.last a.now (sym c.bare.ensures ∙ c.if-bare.true)

pub pentagon_crossing-requires : goal.pentagon_crossing-requires
pentagon_crossing-requires c =
    let s = c.requires.0.solid in
    (c.requires.2, s.grid, rw s.grid (sound_at c.args.self.cell.level.0 true s.level), c.from_ijk-a.ensures ∙ ap centre_of c.coord.ensures)

pub returns-then-self-eq5 : goal.returns-then-self-eq5
returns-then-self-eq5 c =
    let a = c.args in
    c.pentagon_crossing.ensures ∙ pentagon_needed a.self a.k a.last a.now (sym c.bare.ensures ∙ c.if-bare.false) c.if-self-eq5.true

pub returns : goal.returns
returns c =
    let a = c.args in
    c.hexagon_crossing.ensures ∙
    (ap (λ (v : ℕ). hexagon_crossing a.self.cell a.last a.now.place.face v) c.vertex.ensures ∙
    hexagon_needed a.self a.k a.last a.now (sym c.bare.ensures ∙ c.if-bare.false) (six c.requires.0.solid c.if-self-eq5.false))
