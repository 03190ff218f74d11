-- A border in an answer, of the plane or of the sphere: its count and each point's face and mark among the numbers, its coordinates among the doubles. Assumes nothing.
use mathlib.Core.Path.{◌≡◌, refl, sym, ap, subst, ◌∙◌}
use mathlib.Core.Bool.{Bool, true, false}
use mathlib.Core.List.{List, [], ◌∷◌, ◌++◌}
use Prim.Native.Nat.{ℕ, zero, suc, ◌-◌, ◌≤◌}
use native.Mathlib.Omega.{arith}
use lib.Ieee.{Float, binary64, to_bits}
use lib.ListN.{length, length-append, length-map, length-replicate, replicate}
use Rattle.std.specs.Prelude.{Err}
use Rattle.reply.specs.Choice.{pick}
use Rattle.reply.specs.declared.Refusal.TheVariants.{BadFrame, OutOfFace}
use Rattle.reply.specs.Replies.{reply, first, when, zeros, Verdict, fine}
use Rattle.vec3d.specs.Frame.{bad_frame}
use Rattle.level.specs.Levels.{raised_of}
use Rattle.faceijk.specs.declared.Place.{Place}
use Rattle.boundary.specs.declared.BoundaryPoint.{BoundaryPoint}
use Rattle.boundary.specs.Corners.{cell_reasons}
use Rattle.boundary.specs.AsWalked.{cell_verdict}
use Rattle.boundary.specs.Boundaries.{or_else, bad_range, out_of_face, boundary_reasons, asked_shape, verdict_to, turns_for, boundary_verdict, boundary_points, no_point, room_with, padded, points_values, boundary_values, boundary_reply}
use Rattle.boundary.proofs.Asked.{asked}
use Rattle.boundary.proofs.Foremost.{both_fine}
use Rattle.boundary.proofs.Verdicts.{first_append, ranged}
use Rattle.boundary.proofs.Refusing.{at_most_twelve}
use Rattle.globe.specs.declared.SpherePoint.{SpherePoint}
use Rattle.globe.specs.Points.{scale_of}
use Rattle.globe.specs.Boundaries.{image_of, needed_to, first_refused, globe_reasons, globe_verdict, globe_points, no_sphere_point, sphere_points_values, globe_values, globe_reply}
use Rattle.lent.specs.Lent.{held}
use Rattle.lent_borders.specs.Borders as plane
use Rattle.lent_globe.specs.Globes as sphere
use Rattle.ask_read.specs.declared.Asked.{Asked}
use Rattle.ask_call.specs.Replies.{kinds_of, doubles_in, numbers_in, Holds}
use Rattle.ask_call.proofs.Holding.{Parted, nothing, number, double, holds}

-- the kinds of n points, each of which has d doubles
abbrev pub point_kinds : ℕ → ℕ → List ℕ
point_kinds d zero = []
point_kinds d (suc n) = 110 ∷ (replicate d 120 ++ 109 ∷ point_kinds d n)

-- ---- one point more: its face, its doubles, however many, and its mark

module _ {ks vs ns ds : List ℕ} where
  doubles_before : (xs : List ℕ) → Parted ks vs ns ds → Parted (replicate (length xs) 120 ++ ks) (xs ++ vs) ns (xs ++ ds)
  doubles_before [] p = p
  doubles_before (x ∷ xs) p = double 120 x refl (doubles_before xs p)

point_before : {ks vs ns ds : List ℕ} (f mark : ℕ) (xs : List ℕ) → Parted ks vs ns ds
    → Parted (110 ∷ (replicate (length xs) 120 ++ 109 ∷ ks)) (f ∷ (xs ++ mark ∷ vs)) (f ∷ mark ∷ ns) (xs ++ ds)
point_before f mark xs p = number 110 f refl (doubles_before xs (number 109 mark refl p))

on_plane : (ps : List BoundaryPoint) → Parted (point_kinds 2 (length ps)) (points_values ps) (plane.marks_in (points_values ps)) (plane.points_in (points_values ps))
on_plane [] = nothing
on_plane (p ∷ ps) = point_before p.face p.mark (to_bits binary64 p.x ∷ to_bits binary64 p.y ∷ []) (on_plane ps)

on_sphere : (ps : List SpherePoint) → Parted (point_kinds 3 (length ps)) (sphere_points_values ps) (sphere.marks_in (sphere_points_values ps)) (sphere.vectors_in (sphere_points_values ps))
on_sphere [] = nothing
on_sphere (p ∷ ps) =
    point_before p.face p.mark (to_bits binary64 p.x ∷ to_bits binary64 p.y ∷ to_bits binary64 p.z ∷ []) (on_sphere ps)

-- ---- twelve of them, and the count before them

counted : (a : Asked) (d count : ℕ) {n : ℕ} {vs ns ds : List ℕ} → kinds_of a ≡ 110 ∷ point_kinds d 12 → n ≡ 12 → Parted (point_kinds d n) vs ns ds → Parted (kinds_of a) (count ∷ vs) (count ∷ ns) ds
counted a d count {vs = vs} {ns = ns} {ds = ds} t l p =
    subst (λ (ks : List ℕ). Parted ks (count ∷ vs) (count ∷ ns) ds) (ap (λ (n : ℕ). 110 ∷ point_kinds d n) l ∙ sym t) (number 110 count refl p)

-- 25 numbers, and 24 or 36 doubles
plane_room : (numbers_in (110 ∷ point_kinds 2 12) ≡ 25) × (doubles_in (110 ∷ point_kinds 2 12) ≡ 24)
unfolding numbers_in doubles_in
plane_room = (refl, refl)

sphere_room : (numbers_in (110 ∷ point_kinds 3 12) ≡ 25) × (doubles_in (110 ∷ point_kinds 3 12) ≡ 36)
unfolding numbers_in doubles_in
sphere_room = (refl, refl)

-- room for twelve
twelve : {A : Type 0} (unused : A) (ps : List A) → length ps ≤ 12 → length (room_with unused ps) ≡ 12
unfolding room_with
twelve unused ps h = omega (arith, length-append ps (replicate (12 - length ps) unused), length-replicate (12 - length ps) unused)

module _ (sides : ℕ) (p : Place) (l start n : ℕ) where
  -- a border whose tests found nothing has at most twelve points
  few_points : sides ≤ 6 → first (boundary_reasons sides p l start n) ≡ fine → length (boundary_points sides p l start n) ≤ 12
  few_points few f =
      let bad = bad_range sides start n in
      let t = both_fine (cell_verdict p l bad) _ (sym (first_append (cell_reasons p l bad) (when (out_of_face p l) OutOfFace ∷ [])) ∙ f) in
      at_most_twelve sides p l start n (ranged sides start n (asked p l bad t.0).ranged).1 few

  plane_fine : boundary_verdict sides p l start n ≡ fine → first (boundary_reasons sides p l start n) ≡ fine
  unfolding boundary_verdict
  plane_fine e = (both_fine (first (boundary_reasons sides p l start n)) (verdict_to (asked_shape sides p l start) (turns_for sides n)) e).0

  pub border : (a : Asked) {k : ℕ} {ns ds : List ℕ} → kinds_of a ≡ 110 ∷ point_kinds 2 12 → sides ≤ 6
      → let r = boundary_reply sides p l start n in k ≡ r.number → ns ≡ held k 25 (plane.marks_of r.values) (zeros 25) → ds ≡ held k 24 (plane.points_of r.values) (zeros 36) → Holds a r k ns ds
  border a t few =
      let ps = boundary_points sides p l start n in
      holds a 49 25 24 (boundary_verdict sides p l start n) (boundary_values ps) plane.marks_of plane.points_of (ap length t) (ap numbers_in t ∙ plane_room.0) (ap doubles_in t ∙ plane_room.1)
      (λ e. counted a 2 (length ps) t (twelve no_point ps (few_points few (plane_fine e))) (on_plane (padded ps)))

  module _ (s : List Float) where
    sphere_fine : globe_verdict sides s p l start n ≡ fine → first (boundary_reasons sides p l start n) ≡ fine
    unfolding globe_verdict
    sphere_fine e =
        let framed = when (bad_frame s) BadFrame ∷ [] in
        let plain = boundary_reasons sides p l start n in
        let f = (both_fine (first (globe_reasons sides s p l start n)) (first_refused s (scale_of (raised_of l)) (needed_to (asked_shape sides p l start) (turns_for sides n))) e).0 in
        (both_fine (first framed) (first plain) (sym (first_append framed plain) ∙ f)).1

    as_many : length (globe_points sides s p l start n) ≡ length (boundary_points sides p l start n)
    unfolding globe_points
    as_many = length-map (boundary_points sides p l start n) (image_of s (scale_of (raised_of l)))

    pub globe : (a : Asked) {k : ℕ} {ns ds : List ℕ} → kinds_of a ≡ 110 ∷ point_kinds 3 12 → sides ≤ 6
        → let r = globe_reply sides s p l start n in k ≡ r.number → ns ≡ held k 25 (sphere.marks_of r.values) (zeros 25) → ds ≡ held k 36 (sphere.vectors_of r.values) (zeros 36) → Holds a r k ns ds
    globe a t few =
        let ps = globe_points sides s p l start n in
        holds a 61 25 36 (globe_verdict sides s p l start n) (globe_values ps) sphere.marks_of sphere.vectors_of (ap length t) (ap numbers_in t ∙ sphere_room.0) (ap doubles_in t ∙ sphere_room.1)
        (λ e. counted a 3 (length ps) t (twelve no_sphere_point ps (omega (arith, as_many, few_points few (sphere_fine e)))) (on_sphere (room_with no_sphere_point ps)))

    -- a bad frame is refused first, so that its number is the reply's
    pub globe_framed : let r = globe_reply sides s p l start n in pick (bad_frame s) 1 r.number ≡ r.number
    unfolding globe_verdict
    globe_framed = go (bad_frame s) _ _ _
      where
        go : (b : Bool) (v w : Verdict) (vs : List ℕ) → pick b 1 (reply 61 (or_else (pick b (Err BadFrame) v) w) vs).number ≡ (reply 61 (or_else (pick b (Err BadFrame) v) w) vs).number
        go true v w vs = refl
        go false v w vs = refl
