-- The points that a boundary needs, taken in order: what the code holds after some of them. Assumes nothing.
use mathlib.Core.Path.{◌≡◌, refl, sym, ap, ◌∙◌, subst}
use mathlib.Core.Bool.{Bool, true, false}
use mathlib.Core.List.{List, [], ◌∷◌, ◌++◌, append_assoc, append-nil, map, map-append}
use Prim.Native.Nat.{ℕ, zero, suc, ◌+◌, ◌≤◌, ◌<◌}
use native.Mathlib.Decide.{dec_le}
use native.Mathlib.Omega.{arith}
use lib.Dec.{ltb}
use lib.ListN.{length, set, length-append, length-map}
use lib.Ieee.{Float}
use Rattle.reply.specs.Replies.{Verdict, fine}
use Rattle.std.specs.Prelude.{Ok, Err, Result, Option, Some, None}
use Rattle.reply.specs.Choice.{pick}
use Rattle.reply.specs.declared.Refusal.{Refusal}
use Rattle.boundary.specs.declared.Shape.{Shape}
use Rattle.boundary.specs.declared.BoundaryPoint.{BoundaryPoint}
use Rattle.boundary.specs.Landing.{land_at}
use Rattle.boundary.specs.CrossingPoints.{corner_point, before_at}
use Rattle.boundary.specs.Boundaries.{points_before, corners_in, points_in, points_to, or_else, room_with}
use Rattle.boundary.proofs.Counting.{points_fit}
use Rattle.boundary.proofs.Padding.{put}
use Rattle.globe.specs.declared.SpherePoint.{SpherePoint}
use Rattle.globe.specs.Boundaries.{image_of, image_verdict, needed_verdict, corner_in, needed_to, first_refused, no_sphere_point}
use Rattle.globe.specs.AsWorked.{imaged_by, imaged_of}

-- ---- the points of a list of needed ones

abbrev pub points_of : List (Result (Option BoundaryPoint) Refusal) → List BoundaryPoint
points_of [] = []
points_of (b ∷ bs) = points_before b ++ points_of bs

points_append : (bs cs : List (Result (Option BoundaryPoint) Refusal)) → points_of (bs ++ cs) ≡ points_of bs ++ points_of cs
points_append [] cs = refl
points_append (b ∷ bs) cs = ap (λ (ps : List BoundaryPoint). points_before b ++ ps) (points_append bs cs) ∙ sym (append_assoc (points_before b) (points_of bs) (points_of cs))

corner_points : (s : Shape) (k : ℕ) → points_before (corner_in s k (land_at s k).place) ≡ corners_in s k
corner_points s k = go (ltb k s.sides)
  where
    go : (b : Bool) → points_before (pick b (Ok (Some (corner_point (land_at s k).place))) (Ok None)) ≡ pick b (corner_point (land_at s k).place ∷ []) []
    go true = refl
    go false = refl

-- The points that are needed are those of the plane boundary.
pub points_are : (s : Shape) (k : ℕ) → points_of (needed_to s k) ≡ points_to s k
unfolding needed_to points_to points_in
points_are s zero = refl
points_are s (suc k) =
    points_append (needed_to s k) _ ∙
    (λ n. points_are s k n ++ (points_before (before_at s k) ++ (append-nil (points_before (corner_in s k (land_at s k).place)) ∙ corner_points s k) n))

-- ---- the first that is refused

pub or_fine : (v : Verdict) → or_else v fine ≡ v
or_fine (Ok _) = refl
or_fine (Err r) = refl

or_assoc : (u v w : Verdict) → or_else (or_else u v) w ≡ or_else u (or_else v w)
or_assoc (Ok _) v w = refl
or_assoc (Err r) v w = refl

module _ (f : List Float) (scale : Float) where
  pub refused_append : (bs cs : List (Result (Option BoundaryPoint) Refusal)) → first_refused f scale (bs ++ cs) ≡ or_else (first_refused f scale bs) (first_refused f scale cs)
  refused_append [] cs = refl
  refused_append (b ∷ bs) cs =
      ap (or_else (needed_verdict f scale b)) (refused_append bs cs) ∙ sym (or_assoc (needed_verdict f scale b) (first_refused f scale bs) (first_refused f scale cs))

  -- what is refused stays so, whatever is needed after it
  pub still_refused : (bs cs : List (Result (Option BoundaryPoint) Refusal)) (r : Refusal) → first_refused f scale bs ≡ Err r → first_refused f scale (bs ++ cs) ≡ Err r
  still_refused bs cs r e = refused_append bs cs ∙ ap (λ (v : Verdict). or_else v (first_refused f scale cs)) e

  pub stays : (s : Shape) (k : ℕ) (r : Refusal) → first_refused f scale (needed_to s k) ≡ Err r → (n : ℕ) → k ≤ n → first_refused f scale (needed_to s n) ≡ Err r
  unfolding needed_to
  stays s k r e zero h = let z : k ≡ 0 = omega arith in subst (λ (m : ℕ). first_refused f scale (needed_to s m) ≡ Err r) z e
  stays s k r e (suc n) h =
      elim (dec_le k n) [
        | yes a ↦ still_refused (needed_to s n) _ r (stays s k r e n a)
        | no a ↦ let z : k ≡ suc n = omega arith in subst (λ (m : ℕ). first_refused f scale (needed_to s m) ≡ Err r) z e
      ]

  -- ---- one point by its image

  abbrev images : List BoundaryPoint → List SpherePoint
  images ps = map (image_of f scale) ps

  abbrev Told : BoundaryPoint → Result SpherePoint Refusal → Type 0
  Told p (Ok q) = (image_verdict f scale p ≡ fine) × (image_of f scale p ≡ q)
  Told p (Err r) = image_verdict f scale p ≡ Err r

  told : (p : BoundaryPoint) → Told p (imaged_of f scale p)
  told p = go (image_verdict f scale p) refl
    where
      go : (v : Verdict) → image_verdict f scale p ≡ v → Told p (imaged_by v (image_of f scale p))
      go (Ok _) e = (e, refl)
      go (Err r) e = e

  -- ---- what the code holds

  pub record Taken (bs : List (Result (Option BoundaryPoint) Refusal)) (points : List SpherePoint) (count : ℕ) : Type 0 where
    pub fine : first_refused f scale bs ≡ fine
    pub laid : points ≡ room_with no_sphere_point (images (points_of bs))
    pub counted : count ≡ length (points_of bs)

  module _ (bs : List (Result (Option BoundaryPoint) Refusal)) (points : List SpherePoint) (count : ℕ) (now : Taken bs points count) (b : Result (Option BoundaryPoint) Refusal) where
    verdict_next : (v : Verdict) → needed_verdict f scale b ≡ v → first_refused f scale (bs ++ b ∷ []) ≡ v
    verdict_next v e = refused_append bs (b ∷ []) ∙ (ap (λ (u : Verdict). or_else u (or_else (needed_verdict f scale b) fine)) now.fine ∙ (or_fine _ ∙ e))

    points_next : (x : Result (Option BoundaryPoint) Refusal) → b ≡ x → points_of (bs ++ b ∷ []) ≡ points_of bs ++ points_before x
    points_next x e =
        points_append bs (b ∷ []) ∙ (ap (λ (ps : List BoundaryPoint). points_of bs ++ ps) (append-nil (points_before b)) ∙ ap (λ (y : Result (Option BoundaryPoint) Refusal). points_of bs ++ points_before y) e)

    pub with_none : b ≡ Ok None → Taken (bs ++ b ∷ []) points count
    with_none e =
        let same = points_next (Ok None) e ∙ append-nil (points_of bs) in
        record { fine = verdict_next fine (ap (needed_verdict f scale) e); laid = now.laid ∙ ap (λ (ps : List BoundaryPoint). room_with no_sphere_point (images ps)) (sym same); counted = now.counted ∙ ap length (sym same) }

    pub with_refused : (r : Refusal) → b ≡ Err r → first_refused f scale (bs ++ b ∷ []) ≡ Err r
    with_refused r e = verdict_next (Err r) (ap (needed_verdict f scale) e)

    module _ (p : BoundaryPoint) (there : b ≡ Ok (Some p)) where
      -- the list that the boundary needs has room for every point of it
      pub room : (s : Shape) (k : ℕ) (rest : List (Result (Option BoundaryPoint) Refusal)) → (bs ++ b ∷ []) ++ rest ≡ needed_to s (suc k) → k ≤ s.sides → s.sides ≤ 6 → count < 12
      room s k rest all h few =
          let whole = sym (ap length (points_append (bs ++ b ∷ []) rest)) ∙ (ap (λ (ns : List (Result (Option BoundaryPoint) Refusal)). length (points_of ns)) all ∙ ap length (points_are s (suc k))) in
          let one = ap length (points_next (Ok (Some p)) there) ∙ length-append (points_of bs) (p ∷ []) in
          omega (arith, now.counted, whole, one, length-append (points_of (bs ++ b ∷ [])) (points_of rest), points_fit s (suc k) (omega arith) few)

      module _ (x : Result SpherePoint Refusal) (is : x ≡ imaged_of f scale p) where
        found : (y : Result SpherePoint Refusal) → x ≡ y → Told p y
        found y e = subst (Told p) (sym is ∙ e) (told p)

        images_next : (q : SpherePoint) → x ≡ Ok q → images (points_of (bs ++ b ∷ [])) ≡ images (points_of bs) ++ (q ∷ [])
        images_next q e =
            ap images (points_next (Ok (Some p)) there) ∙ (map-append (image_of f scale) (points_of bs) (p ∷ []) ∙ ap (λ (y : SpherePoint). images (points_of bs) ++ (y ∷ [])) (found (Ok q) e).1)

        pub with_point : (q : SpherePoint) → x ≡ Ok q → count < 12 → Taken (bs ++ b ∷ []) (set points count q) (count + 1)
        with_point q e h =
            let next = images_next q e in
            let many : count ≡ length (images (points_of bs)) = now.counted ∙ sym (length-map (points_of bs) (image_of f scale)) in
            record {
              fine = verdict_next fine (ap (needed_verdict f scale) there ∙ (found (Ok q) e).0);
              laid = (λ n. set (now.laid n) (many n) q) ∙ (put no_sphere_point (images (points_of bs)) q (omega (arith, many)) ∙ ap (room_with no_sphere_point) (sym next));
              counted = ap (λ (n : ℕ). n + 1) many ∙ (sym (length-append (images (points_of bs)) (q ∷ [])) ∙ (ap length (sym next) ∙ length-map (points_of (bs ++ b ∷ [])) (image_of f scale)));
            }

        pub with_bad : (r : Refusal) → x ≡ Err r → first_refused f scale (bs ++ b ∷ []) ≡ Err r
        with_bad r e = verdict_next (Err r) (ap (needed_verdict f scale) there ∙ found (Err r) e)
