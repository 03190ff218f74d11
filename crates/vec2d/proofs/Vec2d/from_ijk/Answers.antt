-- `Vec2d::from_ijk` meets its contract: a difference of doubles is the double of the difference. Assumes nothing.
use Prim.Native.Nat.{◌^◌, ◌≤◌}
use native.Mathlib.Omega.{arith}
use Rattle.vec2d.specs.Centre.{centre_of}
use Rattle.vec2d.proofs.Whole.{sub_ints}
use Rattle.vec2d.proofs.Vec2d.from_ijk.Goals as goal

pub returns : goal.returns
unfolding centre_of
returns c =
    let p = c.args.c in
    let hi : p.i ≤ 2 ^ 53 = omega arith in
    let hj : p.j ≤ 2 ^ 53 = omega arith in
    let hk : p.k ≤ 2 ^ 53 = omega arith in
    rw (c.new.ensures, sub_ints p.i p.k hi hk, sub_ints p.j p.k hj hk)
