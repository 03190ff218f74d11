-- `Shape::pentagon` meets its contract: the centre lies on its face, or is refused. Assumes nothing.
use native.Mathlib.Omega.{arith}
use Prim.Native.Nat.{◌*◌, ◌≤◌, ◌<◌}
use borrow.Author.Tests.{lt-ltb, le-ltb}
use Rattle.faceijk.specs.Places.{sum_at}
use Rattle.boundary.specs.AsWalked.{within_of}
use Rattle.boundary.proofs.Shape.pentagon.Goals as goal

pub returns-then-limit-sum : goal.returns-then-limit-sum
unfolding within_of
returns-then-limit-sum c =
    let s = c.args.self in
    let far : 3 * s.cell.m < sum_at s.cell.centre = omega (arith, c.sum.ensures) in
    rw (lt-ltb _ _ far)

pub returns : goal.returns
unfolding within_of
returns c =
    let s = c.args.self in
    let near : sum_at s.cell.centre ≤ 3 * s.cell.m = omega (arith, c.sum.ensures) in
    rw (le-ltb _ _ near, c.pentagon_walk.ensures, c.turns_for.ensures, c.requires.2)
