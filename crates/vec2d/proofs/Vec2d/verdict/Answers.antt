-- `Vec2d::verdict` meets its contract: each return by the tests that lead to it. Assumes nothing.
use mathlib.Core.Path.{sym, ◌∙◌}
use Rattle.vec2d.proofs.Accepted.{inside_fine}
use Rattle.vec2d.proofs.Vec2d.verdict.Goals as goal

pub returns-then-is_inside : goal.returns-then-is_inside
returns-then-is_inside c = sym (inside_fine _ (sym c.is_inside.ensures ∙ c.if-is_inside.true))
