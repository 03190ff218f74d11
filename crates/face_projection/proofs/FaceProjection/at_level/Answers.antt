-- `FaceProjection::at_level` meets its contract: half of an odd level is half of the even one before it. Assumes nothing.
use borrow.Author.Tests.{eq-eqb, ne_eqb}
use mathlib.Core.Path.{◌≡◌}
use Prim.Native.Nat.{◌-◌, ◌/◌}
use native.Mathlib.Omega.{arith}
use lib.Ieee.{of_bits}
use Rattle.face_projection.specs.Projection.{even_level, odd_level, at_level}
use Rattle.face_projection.proofs.FaceProjection.at_level.Goals as goal

pub returns-then-level-eq0 : goal.returns-then-level-eq0
unfolding at_level even_level
returns-then-level-eq0 c = rw (eq-eqb _ _ c.if-level-eq0.true, c.new.ensures, c.power-scale.ensures)

pub returns : goal.returns
unfolding at_level odd_level of_bits
returns c =
    let l = c.args.level.0 in
    let halves : l / 2 ≡ (l - 1) / 2 = omega arith in
    rw (ne_eqb _ _ c.if-level-eq0.false, c.new-2.ensures, c.power-scale.ensures, halves)
