-- What a caller learns of an answer: it is the paper's, and every vector in it is on the sphere. Assumes nothing.
use mathlib.Core.Path.{◌≡◌, refl, sym, ap, ◌∙◌, subst}
use mathlib.Core.List.{List, [], ◌∷◌, map}
use Prim.Native.Nat.{ℕ, ◌-◌, ◌<◌}
use lib.ListN.{length, get_or, replicate, get_or-append}
use lib.Ieee.{Float, binary64}
use lib.Ieee.Bits.{of_bits-fits}
use lib.Ieee.Fits.{div-fits}
use Rattle.reply.specs.declared.Refusal.{Refusal}
use Rattle.reply.specs.Replies.{Verdict, fine}
use Rattle.std.specs.Prelude.{Ok, Err, Result}
use Rattle.reply.specs.Order.{Each}
use Rattle.reply.proofs.Entries.{told, WhereGiven}
use Rattle.level.specs.Levels.{raised_of}
use Rattle.faceijk.specs.declared.Place.{Place}
use Rattle.vec2d.specs.declared.Vec2d.{Vec2d}
use Rattle.vec3d.specs.declared.Vec3d.{Vec3d}
use Rattle.vec3d.specs.Vectors.{vector_verdict}
use Rattle.vec3d.specs.Frame.{face_at}
use Rattle.boundary.specs.declared.BoundaryPoint.{BoundaryPoint}
use Rattle.boundary.specs.Boundaries.{boundary_points, room_with}
use Rattle.globe.specs.declared.SpherePoint.{SpherePoint}
use Rattle.globe.specs.declared.SphereBoundary.{SphereBoundary}
use Rattle.globe.specs.Points.{scale_of, divided_by, sphere_of, sphere_verdict, vector_values, said_lifted, sphere_reply}
use Rattle.globe.specs.Boundaries.{image_of, globe_verdict, globe_points, no_sphere_point, said_globe, globe_reply}
use Rattle.globe.specs.AsWorked.{globe_of}
use Rattle.globe.proofs.Entering.{asked_said}
use Rattle.globe.proofs.Lists.{each_append, each_replicate, each_at}
use Rattle.globe.proofs.UnitVector.{Held}
use Rattle.globe.proofs.OnSphere.{answered_fine, vector_at, globe_fine}
use Rattle.globe.proofs.Unique.{same_vector, AllHeld, one_globe}

divided_held : (l : Float) (v : Vec3d) → Held (divided_by l v)
unfolding divided_by
divided_held l v = record { x = div-fits binary64 _ _; y = div-fits binary64 _ _; z = div-fits binary64 _ _ }

-- ---- one point

module _ (s : List Float) (f l : ℕ) (p : Vec2d) {x : Result Vec3d Refusal} {v : Vec3d} (is : x ≡ Ok v) (held : Held v) (said : said_lifted x ≡ sphere_reply s f l p) where
  -- A vector that the entry of one point gives out is the paper's, and nothing was refused.
  pub sphere_told : (sphere_verdict s f l p ≡ fine) × (v ≡ sphere_of (face_at s f) (scale_of l) p)
  sphere_told =
      let t = told 3 vector_values (sphere_verdict s f l p) _ is said in
      (t.0, same_vector v (sphere_of (face_at s f) (scale_of l) p) held (divided_held _ _) t.1)

  -- So it is on the sphere.
  pub sphere_given : vector_verdict v ≡ fine
  sphere_given = ap vector_verdict sphere_told.1 ∙ answered_fine s f l p sphere_told.0

-- ---- a boundary

unused_held : (n : ℕ) → AllHeld (replicate n no_sphere_point)
unused_held n = each_replicate (λ (q : SpherePoint). Held (vector_at q)) n no_sphere_point (record { x = of_bits-fits binary64 0; y = of_bits-fits binary64 0; z = of_bits-fits binary64 0 })

images_held : (s : List Float) (scale : Float) (ps : List BoundaryPoint) → AllHeld (map (image_of s scale) ps)
unfolding image_of
images_held s scale [] = tt
images_held s scale (p ∷ ps) = (divided_held _ _, images_held s scale ps)

answer_held : (v : Verdict) (ps : List SpherePoint) → AllHeld ps → WhereGiven (λ (x : SphereBoundary). AllHeld x.points) (globe_of v ps)
unfolding room_with
answer_held (Ok _) ps h = each_append (λ (q : SpherePoint). Held (vector_at q)) ps _ h (unused_held (12 - length ps))
answer_held (Err r) ps h = tt

-- each point below the count is on the sphere
abbrev pub OnSphere : SphereBoundary → Type 0
OnSphere b = (k : ℕ) → k < b.count → vector_verdict (vector_at (get_or b.points k no_sphere_point)) ≡ fine

-- the points below the count are those of the list
below_count : (v : Verdict) (ps : List SpherePoint) → (v ≡ fine → Each (λ (q : SpherePoint). vector_verdict (vector_at q) ≡ fine) ps) → WhereGiven OnSphere (globe_of v ps)
unfolding room_with
below_count (Ok _) ps h =
    λ k b. ap (λ (q : SpherePoint). vector_verdict (vector_at q)) (get_or-append ps _ no_sphere_point k b) ∙
    each_at (λ (q : SpherePoint). vector_verdict (vector_at q) ≡ fine) ps k no_sphere_point (h refl) b
below_count (Err r) ps h = tt

module _ (sides : ℕ) (s : List Float) (p : Place) (l start n : ℕ) (x : Result SphereBoundary Refusal) (held : WhereGiven (λ (b : SphereBoundary). AllHeld b.points) x) (said : said_globe x ≡ globe_reply sides s p l start n) where
  -- An answer that the entry of a boundary gives out is the paper's.
  pub globe_told : x ≡ globe_of (globe_verdict sides s p l start n) (globe_points sides s p l start n)
  unfolding globe_points
  globe_told =
      one_globe x (globe_of (globe_verdict sides s p l start n) (globe_points sides s p l start n)) held
      (answer_held (globe_verdict sides s p l start n) (globe_points sides s p l start n) (images_held s (scale_of (raised_of l)) (boundary_points sides p l start n)))
      (said ∙ sym (asked_said sides s p l start n))

  -- So each of its points below the count is on the sphere.
  pub globe_given : WhereGiven OnSphere x
  globe_given =
      subst (λ (y : Result SphereBoundary Refusal). WhereGiven OnSphere y) (sym globe_told)
      (below_count (globe_verdict sides s p l start n) (globe_points sides s p l start n) (globe_fine sides s p l start n))
