-- `look` meets its contract: the loop has looked at the faces below `face`. Assumes nothing.
use mathlib.Core.Path.{◌≡◌, refl}
use native.Mathlib.Numerals.{add-one}
use native.Mathlib.Omega.{arith}
use Rattle.vec3d.specs.Frame.{some_below}
use Rattle.vec3d.proofs.Choosing.{nearest_held}
use Rattle.vec3d.proofs.Held.{none_held, one_more, all_held}
use Rattle.vec3d.proofs.look.Goals as goal

pub loop-face-init : goal.loop-face-init
unfolding some_below
loop-face-init c = (refl, none_held _ _ _ refl)

pub loop-face-preserved : goal.loop-face-preserved
unfolding some_below
loop-face-preserved c =
    (rw add-one (cc), one_more _ _ _ _ _ (omega arith) c.loop-face.invariant.1 c.distance_to.ensures)

pub returns : goal.returns
returns c =
    let done : c.loop-face.face ≡ 20 = omega arith in
    (cc, nearest_held _ _ _ _ (all_held _ _ _ c.loop-face.face done c.loop-face.invariant.1) c.least.ensures)
