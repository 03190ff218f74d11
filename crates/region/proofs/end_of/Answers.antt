-- `end_of` meets its contract. Assumes nothing.
use mathlib.Core.Path.{◌≡◌}
use native.Mathlib.Omega.{arith}
use Rattle.region.specs.Lists.{end_of}
use borrow.Author.Tests.{eq-eqb, ne_eqb}
use Rattle.region.proofs.end_of.Goals as goal

pub returns-then-face-eq-LAST_FACE : goal.returns-then-face-eq-LAST_FACE
unfolding end_of
returns-then-face-eq-LAST_FACE c =
    let last : c.args.face ≡ 19 = omega (arith, c.if-face-eq-LAST_FACE.true) in
    rw (eq-eqb _ _ last) c.count_of.ensures.0

pub returns : goal.returns
unfolding end_of
returns c = rw (ne_eqb _ _ c.if-face-eq-LAST_FACE.false) c.start_of.ensures
