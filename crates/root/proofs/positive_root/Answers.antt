-- `positive_root` meets its contract: the pattern that it makes is that of the root. Assumes nothing.
use mathlib.Core.Path.{sym, subst}
use lib.Dec.{T}
use lib.Ieee.{binary64, fits}
use Rattle.root.proofs.Patterns.{small_no_nan}
use Rattle.root.proofs.Rules.{pattern_bounds, root_given}
use Rattle.root.proofs.positive_root.Goals as goal

pub root_bits-requires : goal.root_bits-requires
root_bits-requires c =
    let held : T (fits binary64 c.args.x) = subst T (sym c.well_formed.0.1) tt in
    pattern_bounds _ held c.requires

pub float_from_bits-result : goal.float_from_bits-result
float_from_bits-result c = small_no_nan _ c.root_bits.ensures.bounded

pub returns : goal.returns
returns c =
    let held : T (fits binary64 c.args.x) = subst T (sym c.well_formed.0.1) tt in
    root_given _ _ held c.requires c.root_bits.ensures.value
