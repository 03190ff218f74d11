-- `bad_for` meets its contract. Assumes nothing.
use mathlib.Core.Path.{sym, ◌∙◌}
use native.Mathlib.Omega.{arith}
use Rattle.region.proofs.Reading.{long}
use Rattle.region.proofs.bad_for.Goals as goal

pub bad_span-requires : goal.bad_span-requires
bad_span-requires c = let l = long _ (sym c.wrong_length.ensures ∙ c.if-wrong_length.false) in (omega (arith, l.fits), omega arith)
