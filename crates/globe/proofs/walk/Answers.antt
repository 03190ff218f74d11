-- `walk` meets its contract. The loop's invariant: points and count are those of what the first k turns need, and the last corner is known. Assumes nothing.
use mathlib.Core.Path.{◌≡◌, refl, sym, ap, subst, ◌∙◌}
use mathlib.Core.List.{[], ◌∷◌, ◌++◌, append-nil}
use Prim.Native.Nat.{◌<◌}
use native.Mathlib.Numerals.{add-one}
use native.Mathlib.Omega.{arith}
use lib.ListN.{length}
use lib.Ieee.{Float}
use Rattle.std.specs.Prelude.{Ok, Some}
use Rattle.std.proofs.lemmas.Result.{err_from_is_err_and}
use Rattle.boundary.specs.CrossingPoints.{before_at}
use Rattle.boundary.specs.Boundaries.{room_with}
use Rattle.boundary.proofs.Landing.{last_at, land_okay_of}
use Rattle.boundary.proofs.Counting.{points_fit}
use Rattle.globe.specs.AsWorked.{OnFace, imaged_of, scale_at}
use Rattle.globe.proofs.OnFaces.{before_on, corner_on, on_face}
use Rattle.globe.proofs.Taking.{points_are, Taken, room, with_none, with_refused, with_point, with_bad}
use Rattle.globe.proofs.Turning.{mid_needed, corner_of, next_needed, corner_there, corner_past, begun, found_is, turned, stopped, ended}
use Rattle.globe.proofs.walk.Goals as goal
use Rattle.globe.proofs.walk.Goals.{After-before-in-loop-k, In-Some, Joined-branch-2, in-Some+in_ok-points, in_default, then-k-shape+in_ok-points-2, else-k-shape}

before_is : (c : After-before-in-loop-k) → before_at c.args.shape c.loop-k.k ≡ c.before-in-loop-k.result
before_is c = sym (found_is _ _ _ _ _ c.before-in-loop-k.ensures c.loop-k.invariant.came c.landed-now.ensures)

-- a crossing point is there, and has room
there : (c : In-Some) → before_at c.args.shape c.loop-k.k ≡ Ok (Some c.in-Some.p)
there c = sym (found_is _ _ _ _ _ c.before-in-loop-k.ensures c.loop-k.invariant.came c.landed-now.ensures) ∙ c.in_ok-p.was ∙ ap Ok c.in-Some.is

point_room : (c : In-Some) → c.loop-k.count < 12
point_room c =
    let s = c.args.shape in
    room _ _ _ _ _ c.loop-k.invariant.taken _ _ (there c) s c.loop-k.k _ (next_needed s c.loop-k.k) (omega (arith, c.requires.2)) c.requires.1.solid.few

-- so it is laid, and there is room for the corner
between : (c : Joined-branch-2) → let a = c.args in Taken a.frame.now (scale_at a.shape) (mid_needed a.shape c.loop-k.k) c.match-branch-2.points c.match-branch-2.count
between c =
    let s = c.args.shape in
    let t = c.loop-k.invariant.taken in
    let was = sym (found_is _ _ _ _ _ c.before-in-loop-k.ensures c.loop-k.invariant.came c.landed-now.ensures) ∙ c.in_ok-p.was in
    elim c.match-branch-2.branch [
      | in-Some+in_ok-points m ↦
          let is = was ∙ ap Ok m.in-Some.is in
          let few = room _ _ _ _ _ t _ _ is s c.loop-k.k _ (next_needed s c.loop-k.k) (omega (arith, c.requires.2)) c.requires.1.solid.few in
          rw (m.points-is, m.count-is) (with_point _ _ _ _ _ t _ _ is _ (m.image_of.ensures ∙ ap (λ (x : Float). imaged_of c.args.frame.now x m.in-Some.p) c.from-scale.ensures) _ m.in_ok-points.was few)
      | in_default m ↦ rw (m.points-is, m.count-is) (with_none _ _ _ _ _ t _ (was ∙ ap Ok m.in_default.is))
    ]

corner_room : (c : Joined-branch-2) → c.loop-k.k < c.args.shape.sides → c.match-branch-2.count < 12
corner_room c h =
    let s = c.args.shape in
    room _ _ _ _ _ (between c) _ _ (corner_there s c.loop-k.k _ _ h c.landed-now.ensures refl) s c.loop-k.k [] (append-nil _ ∙ next_needed s c.loop-k.k) (omega arith) c.requires.1.solid.few

pub loop-k-init : goal.loop-k-init
unfolding room_with last_at
loop-k-init c = begun _ c.args.shape

pub before-requires : goal.before-requires
before-requires c =
    (c.requires.1, omega (arith, c.requires.2), land_okay_of c.args.shape _ _ c.landed-now.ensures c.requires.1)

pub returns-in_err-p : goal.returns-in_err-p
returns-in_err-p c =
    let s = c.args.shape in
    let k = c.loop-k.k in
    let out = err_from_is_err_and c.from_residual.result c.from_residual.ensures.1 in
    let was = before_is (goal.at.returns-in_err-p c).After-before-in-loop-k ∙ c.in_err-p.was in
    rw (out.1, out.2)
    (stopped _ s k c.args.turns _ (mid_needed s k) _ (with_refused _ _ _ _ _ c.loop-k.invariant.taken (before_at s k) _ was) (next_needed s k) c.loop-k-test.true)

pub image_of-requires : goal.image_of-requires
image_of-requires c =
    (c.requires.0, on_face (subst OnFace (there (goal.at.image_of-requires c).In-Some) (before_on c.args.shape c.requires.1 c.loop-k.k)))

pub returns-in_err-points : goal.returns-in_err-points
returns-in_err-points c =
    let s = c.args.shape in
    let k = c.loop-k.k in
    let out = err_from_is_err_and c.from_residual-in_err-points.result c.from_residual-in_err-points.ensures.1 in
    let is = there (goal.at.returns-in_err-points c).In-Some in
    rw (out.1, out.2)
    (stopped _ s k c.args.turns _ (mid_needed s k) _ (with_bad _ _ _ _ _ c.loop-k.invariant.taken (before_at s k) _ is _ (c.image_of.ensures ∙ ap (λ (x : Float). imaged_of c.args.frame.now x c.in-Some.p) c.from-scale.ensures) _ c.in_err-points.was) (next_needed s k) c.loop-k-test.true)

pub offset_bounds-points-count : goal.offset_bounds-points-count
offset_bounds-points-count c = omega (arith, point_room (goal.at.offset_bounds-points-count c).In-Some)

pub bounds-points-count : goal.bounds-points-count
bounds-points-count c = point_room (goal.at.bounds-points-count c).In-Some

pub overflow_add-count : goal.overflow_add-count
overflow_add-count c = omega (arith, point_room (goal.at.overflow_add-count c).In-Some)

pub image_of-requires-then-k-shape : goal.image_of-requires-then-k-shape
image_of-requires-then-k-shape c =
    let s = c.args.shape in
    (c.requires.0, on_face (subst OnFace (corner_there s c.loop-k.k _ _ c.if-k-shape.true c.landed-now.ensures c.corner.ensures) (corner_on s c.requires.1 c.loop-k.k)))

pub returns-in_err-points-2 : goal.returns-in_err-points-2
returns-in_err-points-2 c =
    let s = c.args.shape in
    let k = c.loop-k.k in
    let out = err_from_is_err_and c.from_residual-in_err-points-2.result c.from_residual-in_err-points-2.ensures.1 in
    let is = corner_there s k _ _ c.if-k-shape.true c.landed-now.ensures c.corner.ensures in
    let mid = between (goal.at.returns-in_err-points-2 c).Joined-branch-2 in
    rw (out.1, out.2)
    (stopped _ s k c.args.turns _ (mid_needed s k ++ (corner_of s k ∷ [])) [] (with_bad _ _ _ _ _ mid (corner_of s k) _ is _ (c.image_of-then-k-shape.ensures ∙ ap (λ (x : Float). imaged_of c.args.frame.now x c.corner.result) c.from-scale.ensures) _ c.in_err-points-2.was)
    (append-nil _ ∙ next_needed s k) c.loop-k-test.true)

pub offset_bounds-points-count-then-k-shape : goal.offset_bounds-points-count-then-k-shape
offset_bounds-points-count-then-k-shape c =
    omega (arith, corner_room (goal.at.offset_bounds-points-count-then-k-shape c).Joined-branch-2 c.if-k-shape.true)

pub bounds-points-count-then-k-shape : goal.bounds-points-count-then-k-shape
bounds-points-count-then-k-shape c =
    corner_room (goal.at.bounds-points-count-then-k-shape c).Joined-branch-2 c.if-k-shape.true

pub overflow_add-count-then-k-shape : goal.overflow_add-count-then-k-shape
overflow_add-count-then-k-shape c =
    omega (arith, corner_room (goal.at.overflow_add-count-then-k-shape c).Joined-branch-2 c.if-k-shape.true)

pub loop-k-preserved : goal.loop-k-preserved
loop-k-preserved c =
    let at = goal.at.loop-k-preserved c in
    let mid = between at.Joined-branch-2 in
    let s = c.args.shape in
    let k = c.loop-k.k in
    let land = c.landed-now.ensures in
    rw add-one
    (turned _ s _ _ _ k
    (elim c.if-k-shape.branch [
      | then-k-shape+in_ok-points-2 j ↦
          let is = corner_there s k _ _ j.if-k-shape.true land j.corner.ensures in
          rw (j.points-is, j.count-is) (with_point _ _ _ _ _ mid _ _ is _ (j.image_of-then-k-shape.ensures ∙ ap (λ (x : Float). imaged_of c.args.frame.now x j.corner.result) c.from-scale.ensures) _ j.in_ok-points-2.was (corner_room at.Joined-branch-2 j.if-k-shape.true))
      | else-k-shape j ↦ rw (j.points-is, j.count-is) (with_none _ _ _ _ _ mid _ (corner_past s k j.if-k-shape.false))
    ]) land)

pub overflow_cast-result : goal.overflow_cast-result
overflow_cast-result c =
    let w = c.loop-k in
    omega (arith, w.invariant.taken.counted, ap length (points_are c.args.shape w.k), points_fit c.args.shape w.k (omega (arith, c.requires.2)) c.requires.1.solid.few)

pub returns : goal.returns
returns c =
    let done : c.loop-k.k ≡ c.args.turns = omega arith in
    rw (← done) (ended _ _ _ _ _ c.loop-k.invariant.taken)
