-- `least` meets its contract: the loop has compared the faces below `2 * half`. Assumes nothing.
use mathlib.Core.Path.{◌≡◌}
use mathlib.Core.Bool.{true}
use Prim.Native.Nat.{ℕ, ◌<◌, ◌-◌, ◌*◌}
use Rattle.double.specs.Double.{finite}
use Rattle.vec3d.specs.Nearest.{nearest_by}
use Rattle.vec3d.specs.AsAsked.{distance_at}
use Rattle.vec3d.proofs.least.Given as goal

abbrev pub invariant-loop-half : goal.invariant-loop-half
invariant-loop-half l = ((k : ℕ) → k < 20 → finite (distance_at l.far k) ≡ true) → l.best ≡ nearest_by (distance_at l.far) (2 * l.half - 1)
