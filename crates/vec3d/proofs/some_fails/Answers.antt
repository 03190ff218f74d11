-- `some_fails` meets its contract: the loop has looked at the faces below `face`. Assumes nothing.
use mathlib.Core.Path.{refl}
use native.Mathlib.Numerals.{add-one}
use Rattle.vec3d.specs.Frame.{some_below}
use Rattle.vec3d.proofs.some_fails.Goals as goal

pub loop-face-init : goal.loop-face-init
unfolding some_below
loop-face-init g c = λ test h. refl

pub loop-face-preserved : goal.loop-face-preserved
unfolding some_below
loop-face-preserved g c = λ test h.
    let here = h _ _ c.loop-face-test.true c.fails-found.ensures in
    rw (add-one, c.loop-face.invariant test h, here)
