-- `some_fails` meets its contract: the loop has looked at the faces below `face`. Assumes nothing.
use mathlib.Core.Bool.{Bool}
use mathlib.Core.Path.{◌≡◌}
use Prim.Native.Nat.{ℕ, ◌<◌}
use Rattle.vec3d.specs.Frame.{some_below}
use Rattle.vec3d.proofs.some_fails.Given as goal

abbrev pub invariant-loop-face : goal.invariant-loop-face
invariant-loop-face g l =
    (test : ℕ → Bool) → ((face : ℕ) (b : Bool) → face < 20 → goal.F-post g l.fn.fails face b → b ≡ test face) → l.found ≡ some_below test l.face
