-- `GridLevel::grid` meets its contract: the verdict decides, and the limit is twice the unit scale. Assumes nothing.
use mathlib.Core.List.{[], ◌∷◌}
use mathlib.Core.Path.{◌∙◌, sym, ap}
use Prim.Native.Nat.{ℕ, ◌*◌}
use native.Mathlib.Omega.{arith}
use Rattle.reply.specs.Replies.{answer, bit}
use Rattle.reply.proofs.Entries.{answers}
use Rattle.level.specs.Levels.{grid_verdict}
use Rattle.level.proofs.Sizes.{grid_sound, limit_twice}
use Rattle.level.proofs.Taking.{grid_fine, grid_low}
use Rattle.level.proofs.GridLevel.grid.Goals as goal

pub overflow_mul-result : goal.overflow_mul-result
overflow_mul-result c =
    let a = c.args in
    let l = a.self.0 in
    let low = grid_low l (grid_fine l (sym c.verdict.ensures ∙ c.in_ok-verdict.was)) in
    omega (arith, c.unit-unit.ensures, (grid_sound l a.substrate low).small)

pub returns : goal.returns
returns c =
    let a = c.args in
    let u = c.unit-unit.ensures in
    let m = ap (λ (u : ℕ). 2 * u) u ∙ sym (limit_twice a.self.0 a.substrate) in
    answers 3 (grid_verdict a.self.0) _ _ (sym c.verdict.ensures ∙ c.in_ok-verdict.was)
    (λ n. answer (u n ∷ m n ∷ bit a.substrate ∷ []))
