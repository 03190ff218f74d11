-- `Shape::pentagon_walk` meets its contract. The loop's invariant: the points, the count and the last corner are those of the first k turns, and the corner and the point kept are the first corner and the last one's point. Assumes nothing.
use mathlib.Core.Path.{◌≡◌}
use Prim.Native.Nat.{◌<◌}
use Rattle.vec2d.specs.Centre.{centre_of}
use Rattle.faceijk.specs.Places.{coord_of}
use Rattle.boundary.specs.Landing.{land_at}
use Rattle.boundary.proofs.Walking.{Walking}
use Rattle.boundary.proofs.Shape.pentagon_walk.Given as goal

abbrev pub invariant-loop-k : goal.invariant-loop-k
invariant-loop-k l =
    Walking l.self l.points l.count l.last l.k × (0 < l.k → l.first ≡ land_at l.self 0) × (0 < l.k → l.at ≡ centre_of (coord_of l.last.place))
