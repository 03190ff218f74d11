-- `Place::settled` meets its contract. The loop's invariant: the steps made so far are those of the settling, and what is left of it is the whole; Q falls. Assumes nothing.
use mathlib.Core.Path.{◌≡◌}
use Rattle.faceijk.specs.Places.{sum_at, QAt}
use Rattle.faceijk.proofs.Settling.{Going}
use Rattle.faceijk.proofs.Place.settled.Given as goal

abbrev pub invariant-loop-sum : goal.invariant-loop-sum
invariant-loop-sum l = Going l.grid l.initial.place l.place l.steps × (l.limit ≡ l.grid.limit) × (l.sum ≡ sum_at l.place)

abbrev pub decreases-loop-sum : goal.decreases-loop-sum
decreases-loop-sum l = QAt l.place
