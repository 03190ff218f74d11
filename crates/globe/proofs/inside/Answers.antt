-- `inside` meets its contract: three loops, each of which fills an array from what the one before left. Assumes nothing.
use mathlib.Core.Path.{◌≡◌, sym, ap, subst, ◌∙◌}
use Prim.Native.Nat.{ℕ, ◌<◌}
use native.Mathlib.Omega.{arith}
use lib.ListN.{get_or}
use lib.Ieee.{Float, nan}
use Rattle.reply.specs.Replies.{fine}
use Rattle.std.specs.Prelude.{Ok}
use Rattle.std.proofs.lemmas.Result.{err_from_is_err_and}
use Rattle.faceijk.specs.Places.{coord_of}
use Rattle.vec2d.specs.Centre.{centre_of}
use Rattle.vec3d.specs.Vectors.{dot_of}
use Rattle.vec3d.proofs.Passing.{passed_long}
use Rattle.root.specs.Root.{root_of}
use Rattle.boundary.specs.CrossingPoints.{a_corner}
use Rattle.boundary.specs.Boundaries.{room_with}
use Rattle.globe.specs.Boundaries.{with_vector, no_sphere_point}
use Rattle.globe.specs.AsWorked.{length_of, over_of, scale_at}
use Rattle.globe.specs.Points.{reached_of}
use Rattle.globe.proofs.OneTest.{verdict_by, done_is}
use Rattle.globe.proofs.Filling.{one_more, table, filled_is}
use Rattle.globe.proofs.Deep.{axes, plane_at, square_at, image_at, fine_to, stopped, ended, unread}
use borrow.Author.Count.{below_more}
use Rattle.globe.proofs.inside.Goals as goal

pub face_at-axes-requires : goal.face_at-axes-requires
face_at-axes-requires c = omega (arith, c.requires.1.fit.solid.on, passed_long c.args.frame.now c.requires.0)

pub loop-k-preserved : goal.loop-k-preserved
loop-k-preserved c =
    let few : c.loop-k.k < 6 = omega (arith, c.requires.2, c.requires.1.hexagon) in
    let reached_is : let a = c.args in c.reach-v.result ≡ reached_of (axes a.frame.now a.shape) (scale_at a.shape) (plane_at a.frame.now a.shape c.loop-k.k) = let p = c.from_ijk.ensures ∙ ap centre_of (c.coord.ensures ∙ ap coord_of c.corner.ensures) in
    c.reach-v.ensures ∙ (λ n. reached_of (c.face_at-axes.ensures n) (c.from-scale.ensures n) (p n)) in
    let i = c.loop-k.invariant in
    let face = c.args.shape.cell.centre.face in
    let far = c.on.ensures ∙ ap (with_vector face a_corner) reached_is in
    let square = c.dot.ensures ∙ (λ n. dot_of (reached_is n) (reached_is n)) in
    (one_more unread 12 _ _ _ _ _ i.0 (omega (arith, few)) far, one_more nan 6 _ _ _ _ _ i.1 few square)

pub returns-in_err-lengths : goal.returns-in_err-lengths
returns-in_err-lengths c =
    let square_is : (i : ℕ) → i < c.args.length → get_or c.loop-k.lengths i nan ≡ square_at c.args.frame.now c.args.shape i =
    λ i h. c.loop-k.invariant.1.new i (omega arith) in
    let few_2 : c.loop-l.l < 6 = omega (arith, c.requires.2, c.requires.1.hexagon) in
    let found_is : c.length_of.result ≡ length_of (get_or c.loop-k.lengths c.loop-l.l nan) = c.length_of.ensures ∙ ap length_of (c.loop-l.invariant.0.old c.loop-l.l (omega arith) few_2) in
    let said : (i : ℕ) → i < c.loop-l.l → verdict_by (length_of (square_at c.args.frame.now c.args.shape i)) ≡ fine =
    λ i b. subst (λ (q : Float). verdict_by (length_of q) ≡ fine) (square_is i (omega arith)) (c.loop-l.invariant.1 i b) in
    let out = err_from_is_err_and c.from_residual.result c.from_residual.ensures.1 in
    rw (out.1, out.2)
    (stopped c.args.frame.now c.args.shape c.requires.1 c.args.length c.loop-l.l _ (omega arith) c.requires.2
    (fine_to c.args.frame.now c.args.shape c.requires.1 c.loop-l.l (omega (arith, c.requires.2)) said)
    (ap length_of (sym (square_is c.loop-l.l (omega arith))) ∙ (sym found_is ∙ c.in_err-lengths.was)))

pub loop-l-preserved : goal.loop-l-preserved
loop-l-preserved c =
    let few_2 : c.loop-l.l < 6 = omega (arith, c.requires.2, c.requires.1.hexagon) in
    let found_is : c.length_of.result ≡ length_of (get_or c.loop-k.lengths c.loop-l.l nan) = c.length_of.ensures ∙ ap length_of (c.loop-l.invariant.0.old c.loop-l.l (omega arith) few_2) in
    let is : length_of _ ≡ Ok _ = sym found_is ∙ c.in_ok-lengths.was in (
      one_more nan 6 _ _ _ _ _ c.loop-l.invariant.0 few_2 (done_is _ _ is),
      below_more (λ (i : ℕ). verdict_by (length_of (get_or c.loop-k.lengths i nan)) ≡ fine) c.loop-l.l c.loop-l.invariant.1 (ap verdict_by is),
    )

pub returns : goal.returns
returns c =
    let square_is : (i : ℕ) → i < c.args.length → get_or c.loop-k.lengths i nan ≡ square_at c.args.frame.now c.args.shape i =
    λ i h. c.loop-k.invariant.1.new i (omega arith) in
    let laid : let a = c.args in c.loop-m.points ≡ room_with no_sphere_point (table (image_at a.frame.now a.shape) a.length) = let d = c.loop-m.invariant in
    let n = c.args.length in
    let image : (i : ℕ) → i < n → get_or c.loop-m.points i unread ≡ image_at c.args.frame.now c.args.shape i =
    λ i b. d.new i (omega arith) ∙
    (λ k. over_of ((c.loop-l.invariant.0.new i (omega arith) ∙ ap root_of (square_is i b)) k) (c.loop-k.invariant.0.new i (omega arith) k)) in
    filled_is unread no_sphere_point (image_at c.args.frame.now c.args.shape) _ n c.loop-m.points (omega (arith, c.requires.2, c.requires.1.hexagon))
    (record { long = d.long; new = image; old = λ i b r. d.old i (omega arith) r }) (λ i b r. c.loop-k.invariant.0.old i (omega arith) r) in
    let f = c.args.frame.now in
    let s = c.args.shape in
    let said : (i : ℕ) → i < c.args.length → verdict_by (length_of (square_at f s i)) ≡ fine =
    λ i b. subst (λ (q : Float). verdict_by (length_of q) ≡ fine) (square_is i b) (c.loop-l.invariant.1 i (omega arith)) in
    ended f s c.requires.1 c.args.length _ c.requires.2 (fine_to f s c.requires.1 c.args.length c.requires.2 said) laid
