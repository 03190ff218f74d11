-- `next_name` meets its contract: on the edge it steps, elsewhere it stays. Assumes nothing.
use mathlib.Core.Path.{sym, ap, ◌∙◌}
use Prim.Native.Nat.{ℕ}
use Rattle.faceijk.specs.Steps.{step_of}
use Rattle.names.specs.Row.{next_name}
use Rattle.names.proofs.next_name.Goals as goal

pub returns-then-at_limit : goal.returns-then-at_limit
unfolding next_name
returns-then-at_limit c =
    let a = c.args in
    simp (sym c.at_limit.ensures ∙ c.if-at_limit.true)
    (c.over.ensures ∙ ap (λ (e : ℕ). step_of a.p e a.grid.unit) c.edge_at.ensures)

pub returns : goal.returns
unfolding next_name
returns c = simp (sym c.at_limit.ensures ∙ c.if-at_limit.false)
