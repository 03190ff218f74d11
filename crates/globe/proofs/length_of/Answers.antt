-- `length_of` meets its contract: each return by its tests; what is left has a root. Assumes nothing.
use mathlib.Core.Path.{sym, ◌∙◌}
use Rattle.globe.specs.AsWorked.{length_of}
use Rattle.globe.proofs.OneTest.{positive}
use Rattle.globe.proofs.length_of.Goals as goal

pub returns-then-square : goal.returns-then-square
unfolding length_of
returns-then-square c = rw (sym c.is_finite.ensures ∙ c.if-is_finite.true, c.if-square.true)

pub positive_root-requires : goal.positive_root-requires
positive_root-requires c = positive _ (sym c.is_finite.ensures ∙ c.if-is_finite.true) c.if-square.false

pub returns-then-is_finite : goal.returns-then-is_finite
unfolding length_of
returns-then-is_finite c =
    rw (sym c.is_finite.ensures ∙ c.if-is_finite.true, c.if-square.false, c.positive_root.ensures)

pub returns : goal.returns
unfolding length_of
returns c = rw (sym c.is_finite.ensures ∙ c.if-is_finite.false)
