-- `power` meets its contract: the table has the first eight powers of 7, which antt computes. Assumes nothing.
use Prim.Native.Nat.{◌/◌}
use native.Mathlib.Omega.{arith}
use lib.Ieee.{nan, of_bits, of_int}
use Rattle.face_projection.specs.Projection.{seven_to}
use Rattle.face_projection.proofs.Tables.{table_at}
use Rattle.face_projection.proofs.power.Goals as goal

pub returns : goal.returns
unfolding of_bits of_int seven_to
returns c = table_at seven_to nan 8 (c.args.level.0 / 2) (omega arith)
