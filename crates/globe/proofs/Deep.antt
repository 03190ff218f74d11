-- A hexagon deep inside its face, on the sphere: its corners are all that is needed. Assumes nothing.
use mathlib.Core.Path.{◌≡◌, refl, sym, ap, ◌∙◌}
use mathlib.Core.List.{List, [], ◌∷◌, ◌++◌, append-nil, map}
use Prim.Native.Nat.{ℕ, zero, suc, ◌≤◌, ◌<◌}
use native.Mathlib.Decide.{ℕ_discrete}
use native.Mathlib.Numerals.{add-one}
use native.Mathlib.Omega.{arith}
use lib.ListN.{length}
use lib.Ieee.{Float, nan}
use borrow.Author.Tests.{eq-eqb, ne_eqb, lt-ltb, le-ltb}
use Rattle.reply.specs.Replies.{Verdict, fine}
use Rattle.std.specs.Prelude.{Ok, Err, Result, Option, Some, None}
use Rattle.reply.specs.declared.Refusal.{Refusal}
use Rattle.faceijk.specs.declared.Landed.{Landed}
use Rattle.faceijk.specs.Places.{coord_of}
use Rattle.vec2d.specs.declared.Vec2d.{Vec2d}
use Rattle.vec2d.specs.Centre.{centre_of}
use Rattle.vec3d.specs.declared.FaceAxes.{FaceAxes}
use Rattle.vec3d.specs.Frame.{face_at}
use Rattle.root.specs.Root.{root_of}
use Rattle.boundary.specs.declared.Shape.{Shape}
use Rattle.boundary.specs.declared.BoundaryPoint.{BoundaryPoint}
use Rattle.boundary.specs.Landing.{corner_place, vertex_of, land_at}
use Rattle.boundary.specs.CrossingPoints.{a_corner, corner_point}
use Rattle.boundary.specs.Boundaries.{points_before, points_to, or_else, turns_for, room_with}
use Rattle.boundary.specs.AsWalked.{Deep}
use Rattle.boundary.proofs.Counting.{next_in, next_past}
use Rattle.boundary.proofs.Inside.{stays_at, none_before}
use Rattle.globe.specs.declared.SpherePoint.{SpherePoint}
use Rattle.globe.specs.Points.{reached_of, square_of, divided_by}
use Rattle.globe.specs.Boundaries.{with_vector, image_of, needed_verdict, corner_in, needed_to, first_refused, no_sphere_point}
use Rattle.globe.specs.AsWorked.{length_of, over_of, globe_of, scale_at, turned_of}
use Rattle.globe.proofs.OneTest.{verdict_by, verdict_by_lem}
use Rattle.globe.proofs.Filling.{table, length_table, table_map}
use Rattle.globe.proofs.Taking.{or_fine, refused_append, stays}

-- what would be read past the twelve points; no read is
abbrev pub unread : SpherePoint
unread = record { face = 0; mark = 0; x = nan; y = nan; z = nan }

module _ (f : List Float) (s : Shape) where
  -- the corner i: its plane point, where that lies in space, the squared length, and the point on the sphere
  abbrev pub corner : ℕ → BoundaryPoint
  corner i = corner_point (corner_place s.cell (vertex_of s i))

  abbrev pub plane_at : ℕ → Vec2d
  plane_at i = centre_of (coord_of (corner_place s.cell (vertex_of s i)))

  abbrev pub axes : FaceAxes
  axes = face_at f s.cell.centre.face

  abbrev pub square_at : ℕ → Float
  square_at i = square_of axes (scale_at s) (plane_at i)

  abbrev pub far_at : ℕ → SpherePoint
  far_at i = with_vector s.cell.centre.face a_corner (reached_of axes (scale_at s) (plane_at i))

  abbrev pub image_at : ℕ → SpherePoint
  image_at i = over_of (root_of (square_at i)) (far_at i)

  image_at_lem : (i : ℕ) → image_of f (scale_at s) (corner i) ≡ image_at i
  unfolding image_of divided_by
  image_at_lem i = refl

  module _ (d : Deep s) where
    corner_is : (i : ℕ) → corner_point (land_at s i).place ≡ corner i
    corner_is i = ap (λ (l : Landed). corner_point l.place) (sym (stays_at s d i))

    -- ---- the points

    points_are : (n : ℕ) → n ≤ s.sides → points_to s n ≡ table corner n
    unfolding points_to table
    points_are zero h = refl
    points_are (suc n) h =
        sym (next_in s n (omega arith)) ∙
        (λ k. (ap (λ (b : Result (Option BoundaryPoint) Refusal). points_to s n ++ points_before b) (none_before s d n) ∙ (append-nil (points_to s n) ∙ points_are n (omega arith))) k ++ (corner_is n k ∷ []))

    points_past : points_to s (suc s.sides) ≡ points_to s s.sides
    points_past =
        sym (next_past s s.sides (omega arith)) ∙ (ap (λ (b : Result (Option BoundaryPoint) Refusal). points_to s s.sides ++ points_before b) (none_before s d s.sides) ∙ append-nil (points_to s s.sides))

    -- ---- what is refused

    -- what a turn needs, where nothing stands before its corner
    turn_next : (n : ℕ) (b : Result (Option BoundaryPoint) Refusal) → corner_in s n (land_at s n).place ≡ b → first_refused f (scale_at s) (needed_to s (suc n)) ≡ or_else (first_refused f (scale_at s) (needed_to s n)) (needed_verdict f (scale_at s) b)
    unfolding needed_to
    turn_next n b e =
        refused_append f (scale_at s) (needed_to s n) _ ∙
        (λ k. or_else (first_refused f (scale_at s) (needed_to s n)) (or_else (needed_verdict f (scale_at s) (none_before s d n k)) (or_fine (needed_verdict f (scale_at s) (e k)) k)))

    -- past n corners that are fine, what is said of the next one is said of all
    pub refused_next : (n : ℕ) → n < s.sides → first_refused f (scale_at s) (needed_to s n) ≡ fine → first_refused f (scale_at s) (needed_to s (suc n)) ≡ verdict_by (length_of (square_at n))
    refused_next n h e =
        let there : corner_in s n (land_at s n).place ≡ Ok (Some (corner_point (land_at s n).place)) = simp (lt-ltb n s.sides h) in
        let is : corner_in s n (land_at s n).place ≡ Ok (Some (corner n)) = there ∙ (λ i. Ok (Some (corner_is n i))) in
        turn_next n (Ok (Some (corner n))) is ∙ (ap (λ (v : Verdict). or_else v (needed_verdict f (scale_at s) (Ok (Some (corner n))))) e ∙ sym (verdict_by_lem axes (scale_at s) (plane_at n)))

    pub fine_to : (n : ℕ) → n ≤ s.sides → ((i : ℕ) → i < n → verdict_by (length_of (square_at i)) ≡ fine) → first_refused f (scale_at s) (needed_to s n) ≡ fine
    unfolding needed_to
    fine_to zero h e = refl
    fine_to (suc n) h e = refused_next n (omega arith) (fine_to n (omega arith) (λ i b. e i (omega arith))) ∙ e n (omega arith)

    refused_past : first_refused f (scale_at s) (needed_to s (suc s.sides)) ≡ first_refused f (scale_at s) (needed_to s s.sides)
    refused_past = turn_next s.sides (Ok None) (simp (le-ltb s.sides s.sides (omega arith))) ∙ or_fine _

    -- ---- the record

    -- a full length makes a turn more, which needs nothing
    full : (n : ℕ) → n ≤ s.sides → turned_of f s (turns_for s.sides n) ≡ turned_of f s n
    full n h =
        elim (ℕ_discrete n s.sides) [
          | yes e ↦
              let turns : turns_for s.sides n ≡ suc n = simp (eq-eqb n s.sides e, add-one) in
              rw (turns, e) (λ k. globe_of (refused_past k) (map (image_of f (scale_at s)) (points_past k)))
          | no e ↦
              let turns : turns_for s.sides n ≡ n = simp (ne_eqb n s.sides e) in
              rw turns
        ]

    pub stopped : (n l : ℕ) (r : Refusal) → l < n → n ≤ s.sides → first_refused f (scale_at s) (needed_to s l) ≡ fine → length_of (square_at l) ≡ Err r → Err r ≡ turned_of f s (turns_for s.sides n)
    stopped n l r h m e is =
        let v = stays f (scale_at s) s (suc l) r (refused_next l (omega arith) e ∙ ap verdict_by is) n (omega arith) in
        ap (λ (x : Verdict). globe_of x (map (image_of f (scale_at s)) (points_to s n))) (sym v) ∙ sym (full n m)

    pub ended : (n : ℕ) (points : List SpherePoint) → n ≤ s.sides → first_refused f (scale_at s) (needed_to s n) ≡ fine → points ≡ room_with no_sphere_point (table image_at n) → Ok (record { count = n; points = points }) ≡ turned_of f s (turns_for s.sides n)
    ended n points h e laid =
        let images : map (image_of f (scale_at s)) (points_to s n) ≡ table image_at n =
        ap (map (image_of f (scale_at s))) (points_are n h) ∙ (table_map (image_of f (scale_at s)) corner n ∙ (λ k. table (λ i. image_at_lem i k) n)) in
        let many : n ≡ length (map (image_of f (scale_at s)) (points_to s n)) = sym (ap length images ∙ length_table image_at n) in
        (λ k. Ok (record { count = many k; points = (laid ∙ ap (room_with no_sphere_point) (sym images)) k })) ∙
        (ap (λ (v : Verdict). globe_of v (map (image_of f (scale_at s)) (points_to s n))) (sym e) ∙ sym (full n h))
