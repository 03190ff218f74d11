-- `GridLevel::unit` meets its contract: the table has the powers of 7. Assumes nothing.
use mathlib.Core.Path.{ap}
use Prim.Native.Nat.{ℕ, ◌*◌}
use native.Mathlib.Omega.{arith}
use Rattle.level.specs.Levels.{unit_of}
use Rattle.level.proofs.Sizes.{units, units_are}
use Rattle.level.proofs.GridLevel.unit.Goals as goal

pub returns-then-substrate : goal.returns-then-substrate
unfolding units unit_of
returns-then-substrate c = simp c.if-substrate.true (ap (λ (u : ℕ). 3 * u) (units_are _ (omega arith)))

pub returns-else-substrate : goal.returns-else-substrate
unfolding units unit_of
returns-else-substrate c = simp c.if-substrate.false (units_are _ (omega arith))
