-- `double::magnitude` meets its contract. Assumes nothing.
use mathlib.Core.Path.{sym, subst}
use mathlib.Core.Bool.{not}
use lib.Dec.{T}
use lib.Ieee.{binary64, fits, is_nan}
use Rattle.double.proofs.Sign.{finite_no_nan, size_bits, size_bits_no_nan}
use Rattle.double.proofs.magnitude.Goals as goal

pub float_to_bits-result : goal.float_to_bits-result
float_to_bits-result c =
    let number : T (not (is_nan c.args.x)) = finite_no_nan c.args.x c.requires in
    number

pub float_from_bits-result : goal.float_from_bits-result
float_from_bits-result c =
    let held : T (fits binary64 c.args.x) = subst T (sym c.well_formed.0.1) tt in
    let number : T (not (is_nan c.args.x)) = finite_no_nan c.args.x c.requires in
    size_bits_no_nan c.args.x held number

pub returns : goal.returns
returns c =
    let held : T (fits binary64 c.args.x) = subst T (sym c.well_formed.0.1) tt in
    let number : T (not (is_nan c.args.x)) = finite_no_nan c.args.x c.requires in
    size_bits c.args.x held number
