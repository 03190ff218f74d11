-- `Shape::pentagon_walk` meets its contract. The loop's invariant: the points, the count and the last corner are those of the first k turns, and the corner and the point kept are the first corner and the last one's point. Assumes nothing.
use mathlib.Core.Path.{◌≡◌, ap, ◌∙◌}
use Prim.Native.Nat.{◌<◌}
use native.Mathlib.Numerals.{add-one}
use native.Mathlib.Omega.{arith}
use Rattle.std.proofs.lemmas.Result.{err_from_is_err_and}
use Rattle.std.specs.Prelude.{Ok}
use Rattle.vec2d.specs.declared.Vec2d.{Vec2d}
use Rattle.vec2d.specs.Centre.{centre_of}
use Rattle.boundary.specs.Landing.{land_at}
use Rattle.boundary.specs.CrossingPoints.{a_corner, point_on, before_at}
use Rattle.boundary.specs.Boundaries.{room_with}
use Rattle.boundary.proofs.Landing.{last_at, land_okay_of}
use Rattle.boundary.proofs.Counting.{points_fit}
use Rattle.boundary.proofs.Walking.{Between, begun, found_is, room, with_none, with_point, room_corner, past_corners, with_corner, stopped}
use Rattle.boundary.proofs.Shape.pentagon_walk.Goals as goal
use Rattle.boundary.proofs.Shape.pentagon_walk.Goals.{After-pentagon_before, Joined-branch-2, then-k-eq0, else-k-eq0, in-Some, in_default, then-k-lt5, else-k-lt5}

before_is : (c : After-pentagon_before) → before_at c.args.self c.loop-k.k ≡ c.pentagon_before.result
before_is c = found_is _ _ _ _ _ c.loop-k.invariant.0 _ _ c.pentagon_before.ensures c.settled_once-now.ensures

-- there is room for a crossing point, which is laid, and then for the corner
point_room : (c : After-pentagon_before) → c.loop-k.count < 12
point_room c = room _ _ _ _ _ c.loop-k.invariant.0 (omega (arith, c.requires.1)) c.requires.0.solid.few

between : (c : Joined-branch-2) → Between c.args.self c.match-branch-2.points c.match-branch-2.count c.loop-k.k
between c =
    let was = found_is _ _ _ _ _ c.loop-k.invariant.0 _ _ c.pentagon_before.ensures c.settled_once-now.ensures ∙ c.in_ok-point.was in
    let few = room _ _ _ _ _ c.loop-k.invariant.0 (omega (arith, c.requires.1)) c.requires.0.solid.few in
    elim c.match-branch-2.branch [
      | in-Some m ↦ rw (m.points-is, m.count-is) (with_point _ _ _ _ _ c.loop-k.invariant.0 _ (was ∙ ap Ok m.in-Some.is) few)
      | in_default m ↦ rw (m.points-is, m.count-is) (with_none _ _ _ _ _ c.loop-k.invariant.0 (was ∙ ap Ok m.in_default.is))
    ]

corner_room : (c : Joined-branch-2) → c.loop-k.k < 5 → c.match-branch-2.count < 12
corner_room c below = room_corner _ _ _ _ (between c) (omega (arith, c.requires.2)) c.requires.0.solid.few

pub loop-k-init : goal.loop-k-init
unfolding room_with last_at
loop-k-init c =
    (rw c.rested-last.ensures (begun c.args.self), λ later. absurd (omega arith), λ later. absurd (omega arith))

pub pentagon_before-requires : goal.pentagon_before-requires
pentagon_before-requires c =
    let f = c.requires.0 in
    (f, land_okay_of c.args.self c.loop-k.k _ c.settled_once-now.ensures f, c.requires.2, c.loop-k.invariant.2)

pub offset_bounds-points-count : goal.offset_bounds-points-count
offset_bounds-points-count c = omega (arith, point_room (goal.at.offset_bounds-points-count c).After-pentagon_before)

pub bounds-points-count : goal.bounds-points-count
bounds-points-count c = point_room (goal.at.bounds-points-count c).After-pentagon_before

pub overflow_add-count : goal.overflow_add-count
overflow_add-count c = omega (arith, point_room (goal.at.overflow_add-count c).After-pentagon_before)

pub returns-in_err-point : goal.returns-in_err-point
returns-in_err-point c =
    let out = err_from_is_err_and c.from_residual.result c.from_residual.ensures.1 in
    rw (out.1, out.2)
    (stopped _ _ _ _ c.loop-k.invariant.0.fine (before_is (goal.at.returns-in_err-point c).After-pentagon_before ∙ c.in_err-point.was) c.loop-k-test.true)

pub offset_bounds-points-count-then-k-lt5 : goal.offset_bounds-points-count-then-k-lt5
offset_bounds-points-count-then-k-lt5 c = omega (arith, corner_room (goal.at.offset_bounds-points-count-then-k-lt5 c).Joined-branch-2 c.if-k-lt5.true)

pub bounds-points-count-then-k-lt5 : goal.bounds-points-count-then-k-lt5
bounds-points-count-then-k-lt5 c = corner_room (goal.at.bounds-points-count-then-k-lt5 c).Joined-branch-2 c.if-k-lt5.true

pub overflow_add-count-then-k-lt5 : goal.overflow_add-count-then-k-lt5
overflow_add-count-then-k-lt5 c = omega (arith, corner_room (goal.at.overflow_add-count-then-k-lt5 c).Joined-branch-2 c.if-k-lt5.true)

pub loop-k-preserved : goal.loop-k-preserved
loop-k-preserved c =
    let kept : c.if-k-eq0.first ≡ land_at c.args.self 0 =
    elim c.if-k-eq0.branch [
      | then-k-eq0 j ↦
          let start : c.loop-k.k ≡ 0 = omega arith in
          j.first-is ∙ c.settled_once-now.ensures ∙ ap (land_at c.args.self) start
      | else-k-eq0 j ↦ j.first-is ∙ c.loop-k.invariant.1 (omega arith)
    ] in
    let mid = between (goal.at.loop-k-preserved c).Joined-branch-2 in
    let now = c.settled_once-now in
    let pre = c.requires in
    let at = c.from_ijk-at.ensures ∙ ap centre_of c.coord.ensures in
    let point = ap (λ (v : Vec2d). point_on now.result.place.face v a_corner) at in (
      rw add-one
          (elim c.if-k-lt5.branch [
            | then-k-lt5 j ↦ rw (j.points-is, j.count-is) (with_corner _ _ _ _ mid _ now.ensures _ (j.on.ensures ∙ point) (omega (arith, pre.2)) pre.0.solid.few)
            | else-k-lt5 j ↦ rw (j.points-is, j.count-is) (past_corners _ _ _ _ mid _ now.ensures (omega (arith, pre.2)))
          ]),
      λ later. kept,
      λ later. at,
    )

pub overflow_cast-result : goal.overflow_cast-result
overflow_cast-result c =
    let w = c.loop-k in
    let p = c.requires in
    omega (arith, w.invariant.0.counted, points_fit c.args.self w.k (omega (arith, p.1)) p.0.solid.few)
