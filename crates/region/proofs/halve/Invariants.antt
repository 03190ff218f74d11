-- `halve` meets its contract: at each turn what is left to look through ends where it should. Assumes nothing.
use mathlib.Core.Bool.{Bool}
use mathlib.Core.Path.{◌≡◌}
use Prim.Native.Nat.{ℕ, ◌-◌, ◌≤◌, ◌<◌}
use Rattle.region.specs.Entries.{halved}
use Rattle.region.proofs.Halving.{Going}
use Rattle.region.proofs.halve.Given as goal

abbrev pub invariant-loop-lo : goal.invariant-loop-lo
invariant-loop-lo g l =
    (l.fn.from ≤ l.lo) × (l.lo ≤ l.hi) × (l.hi ≤ l.fn.to)
    × ((low : ℕ → Bool) → ((n : ℕ) (b : Bool) → l.fn.from ≤ n → n < l.fn.to → goal.F-post g l.fn.is_low n b → b ≡ low n) → Going low (halved low (l.fn.to - l.fn.from) l.fn.from l.fn.to) l.lo l.hi)

abbrev pub decreases-loop-lo : goal.decreases-loop-lo
decreases-loop-lo g l = l.hi - l.lo
