-- The refusal that an entry's tests give is the foremost that applies; a boundary's points refuse it after them, by 6, 8, 12 or 13; 9 is never given.
-- Assumes nothing.
use mathlib.Core.Path.{◌≡◌, refl, sym, ap, ◌∙◌, subst}
use mathlib.Core.Logic.{◌⊎◌, inl, inr}
use mathlib.Core.List.{List, [], ◌∷◌}
use Prim.Native.Nat.{ℕ, zero, suc}
use native.Mathlib.Omega.{arith}
use lib.Dec.{ltb}
use lib.Ieee.{Float}
use Rattle.std.specs.Prelude.{Ok, Err, Result, Option, Some, None}
use Rattle.reply.specs.declared.Refusal.{Refusal}
use Rattle.reply.specs.declared.Refusal.TheVariants.{BadNumber, Behind}
use Rattle.reply.specs.Replies.{number_of, Reason, first, reply, Verdict, fine}
use Rattle.reply.specs.Order.{Each, Foremost}
use Rattle.reply.proofs.Foremost.{foremost}
use Rattle.level.specs.Levels.{raised_of}
use Rattle.faceijk.specs.declared.Place.{Place}
use Rattle.vec2d.specs.declared.Vec2d.{Vec2d}
use Rattle.vec2d.specs.Points.{point}
use Rattle.vec3d.specs.Frame.{face_at}
use Rattle.boundary.specs.declared.Shape.{Shape}
use Rattle.boundary.specs.declared.BoundaryPoint.{BoundaryPoint}
use Rattle.boundary.specs.Landing.{land_at}
use Rattle.boundary.specs.CrossingPoints.{corner_point, before_at}
use Rattle.boundary.specs.Boundaries.{or_else, turns_for, asked_shape}
use Rattle.boundary.proofs.CrossingRefusals.{Fair, refused, either, TwelveOrThirteen, fair}
use Rattle.globe.specs.Points.{scale_of, lift_reasons, sphere_reasons, sphere_verdict, sphere_reply}
use Rattle.globe.specs.Boundaries.{image_verdict, needed_verdict, corner_in, needed_to, first_refused, globe_reasons, globe_verdict, globe_reply}
use Rattle.globe.proofs.Taking.{refused_append}

-- The entry of one point gives the foremost of 1, 3, 4, 6 and 8 that applies.
pub sphere_foremost : (s : List Float) (f l : ℕ) (p : Vec2d) → Foremost (sphere_reasons s f l p) (sphere_verdict s f l p)
sphere_foremost s f l p = foremost 0 (sphere_reasons s f l p) (omega arith, (omega arith, (omega arith, (omega arith, (omega arith, tt)))))

-- The tests of a boundary on the sphere give the foremost of 1, 3, 4, 5, 10 and 11 that applies.
pub globe_foremost : (sides : ℕ) (s : List Float) (p : Place) (l start n : ℕ) → Foremost (globe_reasons sides s p l start n) (first (globe_reasons sides s p l start n))
globe_foremost sides s p l start n =
    foremost 0 (globe_reasons sides s p l start n) (omega arith, (omega arith, (omega arith, (omega arith, (omega arith, (omega arith, tt))))))

-- ---- which refusals there are

module _ (P : Refusal → Type 0) where
  -- nothing is refused, or it is by a refusal that P allows
  abbrev Allows : Verdict → Type 0
  Allows (Ok _) = Unit {0}
  Allows (Err r) = P r

  first_allows : (rs : List Reason) → Each (λ (x : Reason). P x.refusal) rs → Allows (first rs)
  first_allows [] h = tt
  first_allows (x ∷ rs) h = either Allows x.applies h.0 (first_allows rs h.1)

  or_allows : (a b : Verdict) → Allows a → Allows b → Allows (or_else a b)
  or_allows (Ok _) b f g = g
  or_allows (Err r) b f g = f

allows_more : (P Q : Refusal → Type 0) → ((r : Refusal) → P r → Q r) → (v : Verdict) → Allows P v → Allows Q v
allows_more P Q f (Ok _) h = tt
allows_more P Q f (Err r) h = f r h

-- the four refusals of a point: 6 and 8 of its projection, 12 and 13 of its own
abbrev pub OfPoint : Refusal → Type 0
OfPoint r = ((r ≡ BadNumber) ⊎ (r ≡ Behind)) ⊎ TwelveOrThirteen r

module _ (s : List Float) (scale : Float) where
  image_allows : (p : BoundaryPoint) → Allows OfPoint (image_verdict s scale p)
  image_allows p = first_allows OfPoint (lift_reasons (face_at s p.face) scale (point p.x p.y)) (inl (inl refl), (inl (inr refl), tt))

  needed_allows : (b : Result (Option BoundaryPoint) Refusal) → Fair TwelveOrThirteen b → Allows OfPoint (needed_verdict s scale b)
  needed_allows (Ok None) h = tt
  needed_allows (Ok (Some p)) h = image_allows p
  needed_allows (Err r) (refused h) = inr h

  corner_allows : (k : Shape) (n : ℕ) → Allows OfPoint (needed_verdict s scale (corner_in k n (land_at k n).place))
  corner_allows k n =
      either (λ (b : Result (Option BoundaryPoint) Refusal). Allows OfPoint (needed_verdict s scale b)) (ltb n k.sides) (image_allows (corner_point (land_at k n).place)) tt

  points_allow : (k : Shape) (n : ℕ) → Allows OfPoint (first_refused s scale (needed_to k n))
  unfolding needed_to
  points_allow k zero = tt
  points_allow k (suc n) =
      subst (Allows OfPoint) (sym (refused_append s scale (needed_to k n) _))
      (or_allows OfPoint (first_refused s scale (needed_to k n)) _ (points_allow k n)
      (or_allows OfPoint (needed_verdict s scale (before_at k n)) _ (needed_allows (before_at k n) (fair k n))
      (or_allows OfPoint (needed_verdict s scale (corner_in k n (land_at k n).place)) fine (corner_allows k n) tt)))

module _ (sides : ℕ) (s : List Float) (p : Place) (l start n : ℕ) where
  -- A boundary that passes the tests can be refused by 6, 8, 12 and 13 only.
  pub refused_by_point : (r : Refusal) → first (globe_reasons sides s p l start n) ≡ fine → globe_verdict sides s p l start n ≡ Err r → OfPoint r
  unfolding globe_verdict
  refused_by_point r f e =
      let points = first_refused s (scale_of (raised_of l)) (needed_to (asked_shape sides p l start) (turns_for sides n)) in
      let is : points ≡ Err r = ap (λ (v : Verdict). or_else v points) (sym f) ∙ e in
      subst (Allows OfPoint) is (points_allow s (scale_of (raised_of l)) (asked_shape sides p l start) (turns_for sides n))

-- ---- never 9

abbrev NotNine : Refusal → Type 0
NotNine r = number_of r ≡ 9 → ⊥

not_nine : (m : ℕ) (v : Verdict) (vs : List ℕ) → Allows NotNine v → (reply m v vs).number ≡ 9 → ⊥
not_nine m (Ok _) vs h e = omega arith
not_nine m (Err r) vs h e = h e

of_point : (r : Refusal) → OfPoint r → NotNine r
of_point r (inl (inl q)) e = let z = ap number_of q in omega arith
of_point r (inl (inr q)) e = let z = ap number_of q in omega arith
of_point r (inr (inl q)) e = let z = ap number_of q in omega arith
of_point r (inr (inr q)) e = let z = ap number_of q in omega arith

-- The entry of one point never refuses with 9, ..
pub never_nine : (s : List Float) (f l : ℕ) (p : Vec2d) → (sphere_reply s f l p).number ≡ 9 → ⊥
never_nine s f l p =
    not_nine 3 (sphere_verdict s f l p) _
    (first_allows NotNine (sphere_reasons s f l p) (λ e. omega arith, (λ e. omega arith, (λ e. omega arith, (λ e. omega arith, (λ e. omega arith, tt))))))

-- .. nor does a boundary on the sphere.
pub globe_never_nine : (sides : ℕ) (s : List Float) (p : Place) (l start n : ℕ) → (globe_reply sides s p l start n).number ≡ 9 → ⊥
unfolding globe_verdict
globe_never_nine sides s p l start n =
    let tests = first_allows NotNine (globe_reasons sides s p l start n) (λ e. omega arith, (λ e. omega arith, (λ e. omega arith, (λ e. omega arith, (λ e. omega arith, (λ e. omega arith, tt)))))) in
    let scale = scale_of (raised_of l) in
    let points = needed_to (asked_shape sides p l start) (turns_for sides n) in
    not_nine 61 (globe_verdict sides s p l start n) _
    (or_allows NotNine (first (globe_reasons sides s p l start n)) _ tests
    (allows_more OfPoint NotNine of_point (first_refused s scale points) (points_allow s scale (asked_shape sides p l start) (turns_for sides n))))
