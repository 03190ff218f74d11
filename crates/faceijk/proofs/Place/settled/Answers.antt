-- `Place::settled` meets its contract. The loop's invariant: the steps made so far are those of the settling, and what is left of it is the whole; Q falls. Assumes nothing.
use native.Mathlib.Omega.{arith}
use Rattle.faceijk.proofs.Settling.{going, going_few, going_less, going_on, going_end}
use Rattle.faceijk.proofs.Place.settled.Goals as goal

pub loop-sum-init : goal.loop-sum-init
loop-sum-init c = (going _ _ c.requires.1 c.requires.0, c.from-limit.ensures, c.sum-sum.ensures)

pub overflow_add-steps : goal.overflow_add-steps
overflow_add-steps c = record { fits = omega (arith, going_few _ _ _ _ c.loop-sum.invariant.0) }

pub loop-sum-smaller : goal.loop-sum-smaller
loop-sum-smaller c = going_less _ _ _ _ c.loop-sum.invariant.0 (omega arith) _ c.out-place.ensures

pub loop-sum-preserved : goal.loop-sum-preserved
loop-sum-preserved c =
    let inv = c.loop-sum.invariant in
    (going_on _ _ _ _ inv.0 (omega arith) _ c.out-place.ensures, inv.1, c.sum-sum-in-loop-sum.ensures)

pub returns : goal.returns
returns c = going_end _ _ _ _ c.loop-sum.invariant.0 (omega arith)
