-- `Shape::pentagon_before` meets its contract: each return by its tests. Assumes nothing.
use borrow.Author.Tests.{eqb-false}
use mathlib.Core.Bool.{true}
use mathlib.Core.Path.{sym, ◌∙◌}
use native.Mathlib.Omega.{arith}
use Rattle.reply.proofs.Entries.{neither}
use Rattle.faceijk.proofs.Taking.{sound_at}
use Rattle.boundary.proofs.Needed.{not_needed, pentagon_needed}
use Rattle.boundary.proofs.Shape.pentagon_before.Goals as goal

pub returns-then-bare : goal.returns-then-bare
returns-then-bare c =
    let a = c.args in
    not_needed a.self a.k a.last a.now (sym c.bare.ensures ∙ c.if-bare.true)

pub pentagon_crossing-requires : goal.pentagon_crossing-requires
pentagon_crossing-requires c =
    let s = c.requires.0.solid in
    let later = eqb-false c.args.k 0 (neither _ _ (sym c.bare.ensures ∙ c.if-bare.false)).0 in
    (c.requires.1, s.grid, rw s.grid (sound_at c.args.self.cell.level.0 true s.level), c.requires.3 (omega arith))

pub returns : goal.returns
returns c =
    let a = c.args in
    c.pentagon_crossing.ensures ∙ pentagon_needed a.self a.k a.last a.now (sym c.bare.ensures ∙ c.if-bare.false) c.requires.2
