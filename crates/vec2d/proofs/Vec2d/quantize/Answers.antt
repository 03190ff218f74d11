-- `Vec2d::quantize` meets its contract: both coordinates are from 0 up and small enough to be split. Assumes nothing.
use Prim.Native.Nat.{◌-◌, ◌^◌}
use lib.Dec.{lit≤}
use Rattle.double.proofs.Nonnegative.{upto_le}
use Rattle.vec2d.specs.Rounding.{quantized_of}
use Rattle.vec2d.proofs.Accepted.{first_upto, second_upto, first_whole, second_whole}
use Rattle.vec2d.proofs.Vec2d.quantize.Goals as goal

pub split-first-requires : goal.split-first-requires
split-first-requires c =
    rw (c.magnitude.ensures, c.magnitude-x2.ensures) (upto_le (2 ^ 26 - 1) (2 ^ 32 - 1) _ (lit≤ tt) (first_upto c.args.self c.requires))

pub split-second-requires : goal.split-second-requires
split-second-requires c =
    rw c.magnitude-x2.ensures (upto_le (2 ^ 26 - 1) (2 ^ 32 - 1) _ (lit≤ tt) (second_upto c.args.self c.requires))

pub returns-clause-quantizes : goal.returns-clause-quantizes
unfolding quantized_of
returns-clause-quantizes c =
    rw (c.split-second.ensures, c.split-first.ensures, c.magnitude.ensures, c.magnitude-x2.ensures)

pub returns-clause-bounded : goal.returns-clause-bounded
returns-clause-bounded c = (
  rw (c.split-first.ensures, c.magnitude.ensures, c.magnitude-x2.ensures) (first_whole c.args.self c.requires),
  rw (c.split-second.ensures, c.magnitude-x2.ensures) (second_whole c.args.self c.requires),
)
