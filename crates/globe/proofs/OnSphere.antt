-- Every vector given out passes the sphere test of document 01, so that the nearest face never refuses it. Assumes nothing.
use mathlib.Core.Path.{◌≡◌, sym, ◌∙◌, subst}
use mathlib.Core.Bool.{false}
use mathlib.Core.List.{List, [], ◌∷◌}
use Prim.Native.Nat.{ℕ}
use lib.Ieee.{Float, binary64}
use lib.Ieee.Fits.{add-fits}
use borrow.Author.Tests.{not-false}
use Rattle.reply.specs.declared.Refusal.{Refusal}
use Rattle.std.specs.Prelude.{Ok, Err, Result, Option, Some, None}
use Rattle.reply.specs.declared.Refusal.TheVariants.{BadFrame, BadFace, BadLevel, BadNumber, Behind}
use Rattle.reply.specs.Replies.{first, fine}
use Rattle.reply.specs.Order.{Each}
use Rattle.reply.proofs.Entries.{passed}
use Rattle.level.specs.Levels.{bad_grid, raised_of}
use Rattle.faceijk.specs.declared.Place.{Place}
use Rattle.faceijk.specs.Places.{bad_face}
use Rattle.vec2d.specs.declared.Vec2d.{Vec2d}
use Rattle.vec3d.specs.declared.Vec3d.{Vec3d}
use Rattle.vec3d.specs.declared.FaceAxes.{FaceAxes}
use Rattle.vec3d.specs.Vectors.{vector_verdict}
use Rattle.vec3d.specs.Frame.{face_at, bad_frame}
use Rattle.vec3d.specs.Nearest.{nearest_reply}
use Rattle.boundary.specs.declared.BoundaryPoint.{BoundaryPoint}
use Rattle.boundary.specs.Boundaries.{turns_for, asked_shape, boundary_points}
use Rattle.boundary.proofs.Foremost.{both_fine}
use Rattle.globe.specs.declared.SpherePoint.{SpherePoint}
use Rattle.globe.specs.Points.{vector, scale_of, along_of, reached_of, sphere_of, bad_point, behind, lift_verdict, sphere_verdict}
use Rattle.globe.specs.Boundaries.{image_of, image_verdict, needed_verdict, needed_to, first_refused, globe_reasons, globe_verdict, globe_points}
use Rattle.globe.proofs.Lists.{each_map, each_of}
use Rattle.globe.proofs.OneTest.{one_test}
use Rattle.globe.proofs.Taking.{points_of, points_are}
use Rattle.globe.proofs.UnitVector.{Held, unit_fine}

-- ---- one point

module _ (a : FaceAxes) (scale : Float) (p : Vec2d) where
  pub reached_held : Held (reached_of a scale p)
  unfolding reached_of along_of
  reached_held = record { x = add-fits binary64 _ _; y = add-fits binary64 _ _; z = add-fits binary64 _ _ }

  -- A point that the rule of one point answers is on the sphere, whatever the axes and the scale.
  pub sphere_fine : lift_verdict a scale p ≡ fine → vector_verdict (sphere_of a scale p) ≡ fine
  unfolding behind
  sphere_fine e =
      let bad = passed (bad_point a scale p) BadNumber _ e in
      let near = passed (behind a scale p) Behind fine bad.1 in
      unit_fine (reached_of a scale p) reached_held (not-false _ (sym (one_test a scale p) ∙ bad.0)) near.0

-- The same of a point that the entry answers.
pub answered_fine : (s : List Float) (f l : ℕ) (p : Vec2d) → sphere_verdict s f l p ≡ fine → vector_verdict (sphere_of (face_at s f) (scale_of l) p) ≡ fine
answered_fine s f l p e =
    let frame = passed (bad_frame s) BadFrame _ e in
    let face = passed (bad_face f) BadFace _ frame.1 in
    let level = passed (bad_grid l) BadLevel _ face.1 in
    sphere_fine (face_at s f) (scale_of l) p level.1

-- ---- the points of a boundary

module _ (s : List Float) (scale : Float) where
  -- where no point that is needed is refused, each has an image
  fine_each : (bs : List (Result (Option BoundaryPoint) Refusal)) → first_refused s scale bs ≡ fine → Each (λ (p : BoundaryPoint). image_verdict s scale p ≡ fine) (points_of bs)
  fine_each [] e = tt
  fine_each (Ok None ∷ bs) e = fine_each bs e
  fine_each (Ok (Some p) ∷ bs) e = let b = both_fine (image_verdict s scale p) (first_refused s scale bs) e in (b.0, fine_each bs b.1)
  fine_each (Err r ∷ bs) e = fine_each bs (both_fine (needed_verdict s scale (Err r)) (first_refused s scale bs) e).1

abbrev pub vector_at : SpherePoint → Vec3d
vector_at p = vector p.x p.y p.z

image_fine : (s : List Float) (scale : Float) (p : BoundaryPoint) → image_verdict s scale p ≡ fine → vector_verdict (vector_at (image_of s scale p)) ≡ fine
unfolding image_of
image_fine s scale p e = sphere_fine _ scale _ e

module _ (sides : ℕ) (s : List Float) (p : Place) (l start n : ℕ) (e : globe_verdict sides s p l start n ≡ fine) where
  -- In a boundary that is answered, every point of the plane boundary is one that the rule of one point answers.
  pub images_fine : Each (λ (q : BoundaryPoint). image_verdict s (scale_of (raised_of l)) q ≡ fine) (boundary_points sides p l start n)
  unfolding globe_verdict boundary_points
  images_fine =
      let k = asked_shape sides p l start in
      let scale = scale_of (raised_of l) in
      subst (Each (λ (q : BoundaryPoint). image_verdict s scale q ≡ fine)) (points_are k (turns_for sides n))
      (fine_each s scale (needed_to k (turns_for sides n)) (both_fine (first (globe_reasons sides s p l start n)) _ e).1)

  -- So every point of a boundary that is answered is on the sphere.
  pub globe_fine : Each (λ (q : SpherePoint). vector_verdict (vector_at q) ≡ fine) (globe_points sides s p l start n)
  unfolding globe_points
  globe_fine =
      let scale = scale_of (raised_of l) in
      let points = boundary_points sides p l start n in
      each_map (λ (q : SpherePoint). vector_verdict (vector_at q) ≡ fine) (image_of s scale) points (each_of _ (λ (q : BoundaryPoint). image_verdict s scale q ≡ fine) (image_fine s scale) points images_fine)

-- ---- asked again

-- With a frame that passes, the nearest face of a vector on the sphere is answered.
taken : (t : List Float) (v : Vec3d) → bad_frame t ≡ false → vector_verdict v ≡ fine → (nearest_reply t v).number ≡ 0
taken t v f e = rw (f, e)

-- So the nearest face never refuses a point that the entry of one point gives out, ..
pub sphere_taken : (t s : List Float) (f l : ℕ) (p : Vec2d) → bad_frame t ≡ false → sphere_verdict s f l p ≡ fine → (nearest_reply t (sphere_of (face_at s f) (scale_of l) p)).number ≡ 0
sphere_taken t s f l p b e = taken t _ b (answered_fine s f l p e)

-- .. nor any point of a boundary on the sphere.
pub globe_taken : (t : List Float) (sides : ℕ) (s : List Float) (p : Place) (l start n : ℕ) → bad_frame t ≡ false → globe_verdict sides s p l start n ≡ fine → Each (λ (q : SpherePoint). (nearest_reply t (vector_at q)).number ≡ 0) (globe_points sides s p l start n)
globe_taken t sides s p l start n b e =
    each_of _ (λ (q : SpherePoint). vector_verdict (vector_at q) ≡ fine) (λ q h. taken t (vector_at q) b h) (globe_points sides s p l start n) (globe_fine sides s p l start n e)
