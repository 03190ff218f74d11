-- The boundary on the sphere beside the plane boundary: point by point its image, and refused where it is. Assumes nothing.
use mathlib.Core.Path.{◌≡◌, refl, sym, ap, ◌∙◌}
use mathlib.Core.Bool.{false}
use mathlib.Core.Logic.{inl, inr, ⊎_elim}
use mathlib.Core.List.{List, [], ◌∷◌, map}
use Prim.Native.Nat.{ℕ, zero, suc, ◌+◌, ◌-◌, ◌≤◌, ◌<◌}
use native.Mathlib.Omega.{arith}
use lib.Dec.{ltb}
use lib.ListN.{length, drop, replicate, length-map}
use lib.Ieee.{Float}
use borrow.Author.Tests.{le-ltb}
use Rattle.std.specs.Prelude.{Ok, Err, Result, Option, Some, None}
use Rattle.reply.specs.declared.Refusal.{Refusal}
use Rattle.reply.specs.declared.Refusal.TheVariants.{BadFrame}
use Rattle.reply.specs.Replies.{number_of, first, answer, refusal, reply, Verdict, fine}
use Rattle.reply.specs.Order.{Each}
use Rattle.reply.proofs.Entries.{passed}
use Rattle.level.specs.Levels.{bad_grid, raised_of}
use Rattle.faceijk.specs.declared.Place.{Place}
use Rattle.vec2d.specs.Points.{point}
use Rattle.vec3d.specs.Frame.{bad_frame}
use Rattle.boundary.specs.declared.Shape.{Shape}
use Rattle.boundary.specs.declared.BoundaryPoint.{BoundaryPoint}
use Rattle.boundary.specs.Landing.{cell_of}
use Rattle.boundary.specs.CrossingPoints.{before_at}
use Rattle.boundary.specs.Boundaries.{points_before, corners_in, points_in, points_to, crossings_to, or_else, verdict_before, verdict_to, turns_for, boundary_reasons, asked_shape, boundary_verdict, boundary_points, room_with}
use Rattle.boundary.specs.AsWalked.{Fit}
use Rattle.boundary.proofs.Landing.{land_okay}
use Rattle.boundary.proofs.Foremost.{one_refused, both_fine}
use Rattle.boundary.proofs.Refusing.{room_after, count_law, at_most_twelve}
use Rattle.boundary.proofs.CrossingRefusals.{either, TwelveOrThirteen, twelve_or_thirteen}
use Rattle.boundary.proofs.CornerFaces.{asked_fit}
use Rattle.globe.specs.declared.SpherePoint.{SpherePoint}
use Rattle.globe.specs.Points.{scale_of, vector_values, sphere_reply}
use Rattle.globe.specs.Boundaries.{image_of, image_verdict, needed_verdict, needed_to, first_refused, globe_reasons, globe_verdict, globe_points, no_sphere_point, globe_values, globe_reply}
use Rattle.globe.specs.AsWorked.{OnFace}
use Rattle.globe.proofs.Lists.{each_append}
use Rattle.globe.proofs.OnFaces.{before_on, on_face}
use Rattle.globe.proofs.Taking.{refused_append}
use Rattle.globe.proofs.OnSphere.{vector_at, images_fine}

-- ---- the same refusals

-- a point that is not refused was not refused in the plane
needed_plane : (s : List Float) (scale : Float) (b : Result (Option BoundaryPoint) Refusal) → needed_verdict s scale b ≡ fine → verdict_before b ≡ fine
needed_plane s scale (Ok None) e = refl
needed_plane s scale (Ok (Some p)) e = refl
needed_plane s scale (Err r) e = e

points_plane : (s : List Float) (scale : Float) (k : Shape) (n : ℕ) → first_refused s scale (needed_to k n) ≡ fine → verdict_to k n ≡ fine
unfolding needed_to verdict_to
points_plane s scale k zero e = refl
points_plane s scale k (suc n) e =
    let a = both_fine (first_refused s scale (needed_to k n)) _ (sym (refused_append s scale (needed_to k n) _) ∙ e) in
    let b = both_fine (needed_verdict s scale (before_at k n)) _ a.1 in
    λ i. or_else (points_plane s scale k n a.0 i) (needed_plane s scale (before_at k n) b.0 i)

module _ (sides : ℕ) (s : List Float) (p : Place) (l start n : ℕ) where
  -- Where the boundary on the sphere is answered, the frame has passed, ..
  pub frame_passed : globe_verdict sides s p l start n ≡ fine → bad_frame s ≡ false
  unfolding globe_verdict
  frame_passed e = (passed (bad_frame s) BadFrame _ (both_fine (first (globe_reasons sides s p l start n)) _ e).0).0

  tests_passed : globe_verdict sides s p l start n ≡ fine → first (boundary_reasons sides p l start n) ≡ fine
  unfolding globe_verdict
  tests_passed e = (passed (bad_frame s) BadFrame _ (both_fine (first (globe_reasons sides s p l start n)) _ e).0).1

  -- .. and the plane boundary is answered too.
  pub plane_answered : globe_verdict sides s p l start n ≡ fine → boundary_verdict sides p l start n ≡ fine
  unfolding globe_verdict boundary_verdict
  plane_answered e =
      let k = asked_shape sides p l start in
      let points = points_plane s (scale_of (raised_of l)) k (turns_for sides n) (both_fine (first (globe_reasons sides s p l start n)) _ e).1 in
      λ i. or_else (tests_passed e i) (points i)

  -- With a frame that passes, the tests are those of the plane boundary.
  same_tests : bad_frame s ≡ false → first (globe_reasons sides s p l start n) ≡ first (boundary_reasons sides p l start n)
  same_tests f = rw f

  -- So a plane boundary that is refused with 3, 4, 5, 10 or 11 is refused so on the sphere, with every frame that passes.
  pub plane_refused : (r : Refusal) → bad_frame s ≡ false → number_of r < 12 → boundary_verdict sides p l start n ≡ Err r → globe_verdict sides s p l start n ≡ Err r
  unfolding globe_verdict boundary_verdict
  plane_refused r f low e =
      let k = asked_shape sides p l start in
      ⊎_elim (λ t. ap (λ (v : Verdict). or_else v (first_refused s (scale_of (raised_of l)) (needed_to k (turns_for sides n)))) (same_tests f ∙ t)) (λ t. absurd (high (twelve_or_thirteen k (turns_for sides n) r t.1)))
      (one_refused (first (boundary_reasons sides p l start n)) _ r e)
    where
      high : TwelveOrThirteen r → ⊥
      high (inl q) = let z = ap number_of q in omega arith
      high (inr q) = let z = ap number_of q in omega arith

  -- A refused boundary is its number and zeros.
  pub refused_zeros : (r : Refusal) → globe_verdict sides s p l start n ≡ Err r → globe_reply sides s p l start n ≡ refusal 61 r
  refused_zeros r e = ap (λ (v : Verdict). reply 61 v (globe_values (globe_points sides s p l start n))) e

-- The points beyond the count are zero.
pub unused_zero : (ps : List SpherePoint) → drop (length ps) (room_with no_sphere_point ps) ≡ replicate (12 - length ps) no_sphere_point
unused_zero ps = room_after no_sphere_point ps

-- ---- the same points

-- two lists of one length, and R of each two that stand beside each other
abbrev pub Beside : {A B : Type 0} → (A → B → Type 0) → List A → List B → Type 0
Beside R [] [] = Unit {0}
Beside R [] (y ∷ ys) = ⊥
Beside R (x ∷ xs) [] = ⊥
Beside R (x ∷ xs) (y ∷ ys) = R x y × Beside R xs ys

-- q is the image of the plane point p: its face, its mark, and the vector that the entry of one point gives for it
pub record Image (s : List Float) (l : ℕ) (p : BoundaryPoint) (q : SpherePoint) : Type 0 where
  pub face : q.face ≡ p.face
  pub mark : q.mark ≡ p.mark
  pub vector : sphere_reply s p.face (raised_of l) (point p.x p.y) ≡ answer (vector_values (vector_at q))

image : (s : List Float) (l : ℕ) (p : BoundaryPoint) → bad_frame s ≡ false → bad_grid (raised_of l) ≡ false → p.face < 20 → image_verdict s (scale_of (raised_of l)) p ≡ fine → Image s l p (image_of s (scale_of (raised_of l)) p)
unfolding image_of
image s l p f g on e = record { face = refl; mark = refl; vector = rw (f, le-ltb 19 p.face (omega arith), g, e) }

images : (s : List Float) (l : ℕ) → bad_frame s ≡ false → bad_grid (raised_of l) ≡ false → (ps : List BoundaryPoint) → Each (λ (p : BoundaryPoint). p.face < 20) ps → Each (λ (p : BoundaryPoint). image_verdict s (scale_of (raised_of l)) p ≡ fine) ps → Beside (Image s l) ps (map (image_of s (scale_of (raised_of l))) ps)
images s l f g [] on e = tt
images s l f g (p ∷ ps) on e = (image s l p f g on.0 e.0, images s l f g ps on.1 e.1)

-- ---- every point of a plane boundary lies on one of the twenty faces

abbrev On : BoundaryPoint → Type 0
On p = p.face < 20

before_points : (b : Result (Option BoundaryPoint) Refusal) → OnFace b → Each On (points_before b)
before_points (Ok None) h = tt
before_points (Ok (Some p)) h = (on_face h, tt)
before_points (Err r) h = tt

points_on : (s : Shape) → Fit s → (k : ℕ) → Each On (points_to s k)
unfolding points_to points_in
points_on s fit zero = tt
points_on s fit (suc k) =
    each_append On (points_to s k) _ (points_on s fit k)
    (each_append On (points_before (before_at s k)) (corners_in s k) (before_points (before_at s k) (before_on s fit k)) (either (Each On) (ltb k s.sides) ((land_okay s k fit).on, tt) tt))

module _ (sides : ℕ) (s : List Float) (p : Place) (l start n : ℕ) (many : 5 ≤ sides) (few : sides ≤ 6) where
  -- A boundary on the sphere that is answered is the plane boundary, point by point its image under the entry of one point, with the same count, faces and marks.
  pub point_by_point : globe_verdict sides s p l start n ≡ fine → Beside (Image s l) (boundary_points sides p l start n) (globe_points sides s p l start n)
  unfolding globe_points boundary_points cell_of
  point_by_point e =
      let fit = asked_fit sides p l start n many few (tests_passed sides s p l start n e) in
      images s l (frame_passed sides s p l start n e) fit.solid.level (boundary_points sides p l start n)
      (points_on (asked_shape sides p l start) fit (turns_for sides n)) (images_fine sides s p l start n e)

module _ (sides : ℕ) (s : List Float) (p : Place) (l start n : ℕ) where
  -- The count is that of the plane boundary, ..
  pub same_count : length (globe_points sides s p l start n) ≡ length (boundary_points sides p l start n)
  unfolding globe_points
  same_count = length-map (boundary_points sides p l start n) (image_of s (scale_of (raised_of l)))

  -- .. which is the length and the number of crossing points, ..
  pub globe_count : n ≤ sides → length (globe_points sides s p l start n) ≡ n + crossings_to (asked_shape sides p l start) (turns_for sides n)
  globe_count h = same_count ∙ count_law sides p l start n h

  -- .. and at most twelve.
  pub globe_fits : n ≤ sides → sides ≤ 6 → length (globe_points sides s p l start n) ≤ 12
  globe_fits h few = omega (arith, same_count, at_most_twelve sides p l start n h few)
