-- `Shape::hexagon_walk` meets its contract. The loop's invariant: the points, the count and the last corner are those of the first k turns. Assumes nothing.
use mathlib.Core.Path.{◌≡◌, ap, ◌∙◌}
use Prim.Native.Nat.{◌<◌}
use native.Mathlib.Numerals.{add-one}
use native.Mathlib.Omega.{arith}
use Rattle.std.proofs.lemmas.Result.{err_from_is_err_and}
use Rattle.std.specs.Prelude.{Ok}
use Rattle.boundary.specs.CrossingPoints.{before_at}
use Rattle.boundary.specs.Boundaries.{room_with}
use Rattle.boundary.proofs.Landing.{last_at}
use Rattle.boundary.proofs.Counting.{points_fit}
use Rattle.boundary.proofs.Walking.{Between, begun, found_is, room, with_none, with_point, room_corner, past_corners, with_corner, stopped}
use Rattle.boundary.proofs.Shape.hexagon_walk.Goals as goal
use Rattle.boundary.proofs.Shape.hexagon_walk.Goals.{After-hexagon_before, Joined-branch-2, in-Some, in_default, then-k-lt6, else-k-lt6}

before_is : (c : After-hexagon_before) → before_at c.args.self c.loop-k.k ≡ c.hexagon_before.result
before_is c = found_is _ _ _ _ _ c.loop-k.invariant _ _ c.hexagon_before.ensures c.crossed-now.ensures

-- there is room for a crossing point, which is laid, and then for the corner
point_room : (c : After-hexagon_before) → c.loop-k.count < 12
point_room c = room _ _ _ _ _ c.loop-k.invariant (omega (arith, c.requires.1)) c.requires.0.solid.few

between : (c : Joined-branch-2) → Between c.args.self c.match-branch-2.points c.match-branch-2.count c.loop-k.k
between c =
    let was = found_is _ _ _ _ _ c.loop-k.invariant _ _ c.hexagon_before.ensures c.crossed-now.ensures ∙ c.in_ok-point.was in
    let few = room _ _ _ _ _ c.loop-k.invariant (omega (arith, c.requires.1)) c.requires.0.solid.few in
    elim c.match-branch-2.branch [
      | in-Some m ↦ rw (m.points-is, m.count-is) (with_point _ _ _ _ _ c.loop-k.invariant _ (was ∙ ap Ok m.in-Some.is) few)
      | in_default m ↦ rw (m.points-is, m.count-is) (with_none _ _ _ _ _ c.loop-k.invariant (was ∙ ap Ok m.in_default.is))
    ]

corner_room : (c : Joined-branch-2) → c.loop-k.k < 6 → c.match-branch-2.count < 12
corner_room c below = room_corner _ _ _ _ (between c) (omega (arith, c.requires.2)) c.requires.0.solid.few

pub loop-k-init : goal.loop-k-init
unfolding room_with last_at
loop-k-init c = begun c.args.self

pub offset_bounds-points-count : goal.offset_bounds-points-count
offset_bounds-points-count c = omega (arith, point_room (goal.at.offset_bounds-points-count c).After-hexagon_before)

pub bounds-points-count : goal.bounds-points-count
bounds-points-count c = point_room (goal.at.bounds-points-count c).After-hexagon_before

pub overflow_add-count : goal.overflow_add-count
overflow_add-count c = omega (arith, point_room (goal.at.overflow_add-count c).After-hexagon_before)

pub returns-in_err-point : goal.returns-in_err-point
returns-in_err-point c =
    let out = err_from_is_err_and c.from_residual.result c.from_residual.ensures.1 in
    rw (out.1, out.2)
    (stopped _ _ _ _ c.loop-k.invariant.fine (before_is (goal.at.returns-in_err-point c).After-hexagon_before ∙ c.in_err-point.was) c.loop-k-test.true)

pub offset_bounds-points-count-then-k-lt6 : goal.offset_bounds-points-count-then-k-lt6
offset_bounds-points-count-then-k-lt6 c = omega (arith, corner_room (goal.at.offset_bounds-points-count-then-k-lt6 c).Joined-branch-2 c.if-k-lt6.true)

pub bounds-points-count-then-k-lt6 : goal.bounds-points-count-then-k-lt6
bounds-points-count-then-k-lt6 c = corner_room (goal.at.bounds-points-count-then-k-lt6 c).Joined-branch-2 c.if-k-lt6.true

pub overflow_add-count-then-k-lt6 : goal.overflow_add-count-then-k-lt6
overflow_add-count-then-k-lt6 c = omega (arith, corner_room (goal.at.overflow_add-count-then-k-lt6 c).Joined-branch-2 c.if-k-lt6.true)

pub loop-k-preserved : goal.loop-k-preserved
loop-k-preserved c =
    let mid = between (goal.at.loop-k-preserved c).Joined-branch-2 in
    let is = c.crossed-now.ensures in
    let pre = c.requires in
    rw add-one
    (elim c.if-k-lt6.branch [
      | then-k-lt6 j ↦ rw (j.points-is, j.count-is) (with_corner _ _ _ _ mid _ is _ j.corner.ensures (omega (arith, pre.2)) pre.0.solid.few)
      | else-k-lt6 j ↦ rw (j.points-is, j.count-is) (past_corners _ _ _ _ mid _ is (omega (arith, pre.2)))
    ])

pub overflow_cast-result : goal.overflow_cast-result
overflow_cast-result c =
    let w = c.loop-k in
    let p = c.requires in
    omega (arith, w.invariant.counted, points_fit c.args.self w.k (omega (arith, p.1)) p.0.solid.few)
