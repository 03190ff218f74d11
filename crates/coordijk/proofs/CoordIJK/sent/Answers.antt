-- `CoordIJK::sent` meets its contract: each arm is its row of the table. Assumes nothing.
use mathlib.Core.Path.{◌∙◌}
use native.Mathlib.Omega.{arith}
use Rattle.coordijk.specs.Maps.{map_of}
use Rattle.coordijk.proofs.Reducing.{reduced_same}
use Rattle.coordijk.proofs.CoordIJK.sent.Goals as goal

pub returns-in-SixthTurnCcw : goal.returns-in-SixthTurnCcw
unfolding map_of
returns-in-SixthTurnCcw c = rw c.in-SixthTurnCcw.is (c.times_plus.ensures ∙ reduced_same (omega arith) (omega arith) (omega arith))

pub returns-in-SixthTurnCw : goal.returns-in-SixthTurnCw
unfolding map_of
returns-in-SixthTurnCw c = rw c.in-SixthTurnCw.is (c.times_plus-in-SixthTurnCw.ensures ∙ reduced_same (omega arith) (omega arith) (omega arith))

pub returns-in-Aperture3Ccw : goal.returns-in-Aperture3Ccw
unfolding map_of
returns-in-Aperture3Ccw c = rw c.in-Aperture3Ccw.is (c.times_plus-in-Aperture3Ccw.ensures ∙ reduced_same (omega arith) (omega arith) (omega arith))

pub returns-in-Aperture3Cw : goal.returns-in-Aperture3Cw
unfolding map_of
returns-in-Aperture3Cw c = rw c.in-Aperture3Cw.is (c.times_plus-in-Aperture3Cw.ensures ∙ reduced_same (omega arith) (omega arith) (omega arith))

pub returns-in-Aperture7Cw : goal.returns-in-Aperture7Cw
unfolding map_of
returns-in-Aperture7Cw c = rw c.in-Aperture7Cw.is (c.times_plus-in-Aperture7Cw.ensures ∙ reduced_same (omega arith) (omega arith) (omega arith))
