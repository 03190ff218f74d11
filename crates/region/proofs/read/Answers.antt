-- `read` meets its contract. Assumes nothing.
use mathlib.Core.Path.{sym, ◌∙◌}
use native.Mathlib.Omega.{arith}
use Rattle.region.proofs.Reading.{long}
use Rattle.region.proofs.read.Goals as goal

pub count_of-requires : goal.count_of-requires
count_of-requires c = let l = long _ (sym c.wrong_length.ensures ∙ c.if-wrong_length.false) in omega (arith, l.fits)

pub record_at-requires : goal.record_at-requires
record_at-requires c = let l = long _ (sym c.wrong_length.ensures ∙ c.if-wrong_length.false) in omega (arith, l.fits, c.count_of.ensures.0)
