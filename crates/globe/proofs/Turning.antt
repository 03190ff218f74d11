-- The walk round a cell on the sphere, turn by turn: what the code's loop holds. Assumes nothing.
use mathlib.Core.Path.{◌≡◌, refl, sym, ap, ◌∙◌, subst}
use mathlib.Core.List.{List, [], ◌∷◌, ◌++◌, append_assoc, map}
use Prim.Native.Nat.{ℕ, suc, ◌≤◌, ◌<◌}
use native.Mathlib.Omega.{arith}
use lib.ListN.{length, length-map}
use lib.Ieee.{Float}
use borrow.Author.Tests.{lt-ltb, le-ltb}
use Rattle.reply.specs.Replies.{Verdict}
use Rattle.std.specs.Prelude.{Ok, Err, Result, Option, Some, None}
use Rattle.reply.specs.declared.Refusal.{Refusal}
use Rattle.faceijk.specs.declared.Landed.{Landed}
use Rattle.boundary.specs.declared.Shape.{Shape}
use Rattle.boundary.specs.declared.BoundaryPoint.{BoundaryPoint}
use Rattle.boundary.specs.Landing.{land_at}
use Rattle.boundary.specs.CrossingPoints.{corner_point, before_at}
use Rattle.boundary.specs.Boundaries.{points_to, room_with}
use Rattle.boundary.specs.AsWalked.{before_from}
use Rattle.boundary.proofs.Landing.{last_at}
use Rattle.boundary.proofs.Walking.{before_is}
use Rattle.globe.specs.declared.SpherePoint.{SpherePoint}
use Rattle.globe.specs.Boundaries.{image_of, corner_in, needed_to, first_refused, no_sphere_point}
use Rattle.globe.specs.AsWorked.{globe_of, scale_at, turned_of}
use Rattle.globe.proofs.Taking.{points_are, Taken, still_refused, stays}

-- the needed points of the first k turns and of turn k what stands before its corner
abbrev pub mid_needed : Shape → ℕ → List (Result (Option BoundaryPoint) Refusal)
mid_needed s k = needed_to s k ++ (before_at s k ∷ [])

abbrev pub corner_of : Shape → ℕ → Result (Option BoundaryPoint) Refusal
corner_of s k = corner_in s k (land_at s k).place

pub next_needed : (s : Shape) (k : ℕ) → mid_needed s k ++ (corner_of s k ∷ []) ≡ needed_to s (suc k)
unfolding needed_to
next_needed s k = append_assoc (needed_to s k) (before_at s k ∷ []) (corner_of s k ∷ [])

-- the corner of turn k is needed as long as there are any
pub corner_there : (s : Shape) (k : ℕ) (land : Landed) (p : BoundaryPoint) → k < s.sides → land ≡ land_at s k → p ≡ corner_point land.place → corner_of s k ≡ Ok (Some p)
corner_there s k land p h e g =
    let there : corner_of s k ≡ Ok (Some (corner_point (land_at s k).place)) = simp (lt-ltb k s.sides h) in
    there ∙ sym (λ n. Ok (Some ((g ∙ ap (λ (l : Landed). corner_point l.place) e) n)))

pub corner_past : (s : Shape) (k : ℕ) → s.sides ≤ k → corner_of s k ≡ Ok None
corner_past s k h = simp (le-ltb k s.sides h)

pub found_is : (s : Shape) (b : Result (Option BoundaryPoint) Refusal) (last land : Landed) (k : ℕ) → b ≡ before_from s k last land → last ≡ last_at s k → land ≡ land_at s k → b ≡ before_at s k
found_is s b last land k e g h = e ∙ ((λ n. before_from s k (g n) (h n)) ∙ before_is s k)

module _ (f : List Float) (s : Shape) where
  -- after k turns
  pub record Walking (points : List SpherePoint) (count : ℕ) (last : Landed) (k : ℕ) : Type 0 where
    pub taken : Taken f (scale_at s) (needed_to s k) points count
    pub came : last ≡ last_at s k

  pub begun : Walking (room_with no_sphere_point []) 0 (last_at s 0) 0
  unfolding needed_to
  begun = record { taken = record { fine = refl; laid = refl; counted = refl }; came = refl }

  pub turned : (points : List SpherePoint) (count : ℕ) (land : Landed) (k : ℕ) → Taken f (scale_at s) (mid_needed s k ++ (corner_of s k ∷ [])) points count → land ≡ land_at s k → Walking points count land (suc k)
  unfolding last_at
  turned points count land k t is = record { taken = subst (λ (ns : List (Result (Option BoundaryPoint) Refusal)). Taken f (scale_at s) ns points count) (next_needed s k) t; came = is }

  -- the refusal of a point of turn k is that of the boundary
  pub stopped : (k turns : ℕ) (r : Refusal) (ns rest : List (Result (Option BoundaryPoint) Refusal)) → first_refused f (scale_at s) ns ≡ Err r → ns ++ rest ≡ needed_to s (suc k) → k < turns → Err r ≡ turned_of f s turns
  stopped k turns r ns rest e all h =
      let v = stays f (scale_at s) s (suc k) r (ap (first_refused f (scale_at s)) (sym all) ∙ still_refused f (scale_at s) ns rest r e) turns (omega arith) in
      ap (λ (x : Verdict). globe_of x (map (image_of f (scale_at s)) (points_to s turns))) (sym v)

  pub ended : (points : List SpherePoint) (count : ℕ) (k : ℕ) → Taken f (scale_at s) (needed_to s k) points count → Ok (record { count = count; points = points }) ≡ turned_of f s k
  ended points count k t =
      let are = points_are s k in
      let many = t.counted ∙ (ap length are ∙ sym (length-map (points_to s k) (image_of f (scale_at s)))) in
      (λ n. Ok (record { count = many n; points = (t.laid ∙ ap (λ (ps : List BoundaryPoint). room_with no_sphere_point (map (image_of f (scale_at s)) ps)) are) n })) ∙
      ap (λ (v : Verdict). globe_of v (map (image_of f (scale_at s)) (points_to s k))) (sym t.fine)
