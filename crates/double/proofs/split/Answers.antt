-- `double::split` meets its contract. Assumes nothing.
use mathlib.Core.Path.{◌≡◌}
use Prim.Native.Nat.{◌-◌, ◌^◌}
use native.Mathlib.Omega.{arith}
use lib.Dec.{T, le→leb}
use lib.IntN.{pos}
use lib.Ieee.{Float, binary64, of_int, to_unsigned, in_float, in_unsigned}
use lib.Ieee.Back.{unsigned_back}
use Rattle.double.specs.Double.{whole_of}
use Rattle.double.specs.Sizes.{Upto}
use Rattle.double.proofs.Nonnegative.{whole_le}
use Rattle.double.proofs.split.Goals as goal

-- The whole part as a double fits a u32 and casts back to itself.
back : (x : Float) → Upto (2 ^ 32 - 1) x → T (in_unsigned binary64 32 (of_int binary64 (pos (whole_of x)))) × (to_unsigned 32 (of_int binary64 (pos (whole_of x))) ≡ whole_of x)
unfolding in_float
back x p =
    let top = whole_le (2 ^ 32 - 1) x p in
    unsigned_back binary64 32 (whole_of x) (le→leb (whole_of x) (2 ^ 53) (omega arith)) (omega arith)

pub float_to_int-result : goal.float_to_int-result
float_to_int-result c = rw c.floor-whole.ensures (back c.args.x c.requires).0

pub returns : goal.returns
returns c = rw (c.floor-whole.ensures, (back c.args.x c.requires).1)
