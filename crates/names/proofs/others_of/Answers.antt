-- `others_of` meets its contract: the sum is tested, then whether a coordinate is the limit. Assumes nothing.
use mathlib.Core.Path.{sym, ◌∙◌}
use Rattle.names.specs.Row.{others}
use Rattle.names.proofs.others_of.Goals as goal

pub returns-then-p-grid : goal.returns-then-p-grid
unfolding others
returns-then-p-grid c =
    simp (sym c.at_limit.ensures ∙ c.if-at_limit.true, c.if-p-grid.true)

pub returns-then-at_limit : goal.returns-then-at_limit
unfolding others
returns-then-at_limit c =
    simp (sym c.at_limit.ensures ∙ c.if-at_limit.true, c.if-p-grid.false)

pub returns : goal.returns
unfolding others
returns c = simp (sym c.at_limit.ensures ∙ c.if-at_limit.false)
