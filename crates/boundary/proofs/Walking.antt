-- The walk round a cell, turn by turn: what the code's loop holds. Assumes nothing.
use mathlib.Core.Path.{◌≡◌, refl, sym, ap, ◌∙◌, subst}
use mathlib.Core.List.{List, [], ◌∷◌, ◌++◌, append-nil}
use Prim.Native.Nat.{ℕ, zero, suc, ◌+◌, ◌≤◌, ◌<◌}
use native.Mathlib.Decide.{dec_le}
use native.Mathlib.Omega.{arith}
use lib.ListN.{length, set, length-append}
use borrow.Author.Tests.{ne_eqb}
use Rattle.reply.specs.Replies.{Verdict, fine}
use Rattle.std.specs.Prelude.{Ok, Err, Result, Option, Some, None}
use Rattle.reply.specs.declared.Refusal.{Refusal}
use Rattle.faceijk.specs.declared.Landed.{Landed}
use Rattle.boundary.specs.declared.Shape.{Shape}
use Rattle.boundary.specs.declared.BoundaryPoint.{BoundaryPoint}
use Rattle.boundary.specs.Landing.{land_at}
use Rattle.boundary.specs.CrossingPoints.{corner_point, before_at}
use Rattle.boundary.specs.Boundaries.{points_before, points_to, or_else, verdict_before, verdict_to, no_point, padded}
use Rattle.boundary.specs.AsWalked.{before_from, boundary_of}
use Rattle.boundary.proofs.Landing.{last_at}
use Rattle.boundary.proofs.Padding.{put}
use Rattle.boundary.proofs.Counting.{crossings_few, mid_points, next_in, next_past, count_is, mid_count}

-- after k turns
pub record Walking (s : Shape) (points : List BoundaryPoint) (count : ℕ) (last : Landed) (k : ℕ) : Type 0 where
  pub fine : verdict_to s k ≡ fine
  pub laid : points ≡ padded (points_to s k)
  pub counted : count ≡ length (points_to s k)
  pub came : last ≡ last_at s k

-- in turn k, before its corner
pub record Between (s : Shape) (points : List BoundaryPoint) (count k : ℕ) : Type 0 where
  pub fine : verdict_to s (suc k) ≡ fine
  pub laid : points ≡ padded (mid_points s k)
  pub counted : count ≡ length (mid_points s k)

verdict_next : (s : Shape) (k : ℕ) (b : Result (Option BoundaryPoint) Refusal) → verdict_to s k ≡ fine → before_at s k ≡ b → verdict_to s (suc k) ≡ verdict_before b
unfolding verdict_to
verdict_next s k b f e = ap (λ (v : Verdict). or_else v (verdict_before (before_at s k))) f ∙ ap verdict_before e

mid_next : (s : Shape) (k : ℕ) (b : Result (Option BoundaryPoint) Refusal) → before_at s k ≡ b → mid_points s k ≡ points_to s k ++ points_before b
mid_next s k b e = ap (λ (x : Result (Option BoundaryPoint) Refusal). points_to s k ++ points_before x) e

pub before_is : (s : Shape) (k : ℕ) → before_from s k (last_at s k) (land_at s k) ≡ before_at s k
unfolding before_at before_from last_at
before_is s zero = refl
before_is s (suc k) = rw (ne_eqb (suc k) 0 (λ e. omega arith))

module _ (s : Shape) (points : List BoundaryPoint) (count : ℕ) (last : Landed) (k : ℕ) (now : Walking s points count last k) where
  pub found_is : (b : Result (Option BoundaryPoint) Refusal) (land : Landed) → b ≡ before_from s k last land → land ≡ land_at s k → before_at s k ≡ b
  found_is b land e h = sym (e ∙ ((λ n. before_from s k (now.came n) (h n)) ∙ before_is s k))

  -- there is room for a crossing point
  pub room : k ≤ s.sides → s.sides ≤ 6 → count < 12
  room h few = omega (arith, now.counted, count_is s k h, crossings_few s k)

  pub with_none : before_at s k ≡ Ok None → Between s points count k
  with_none e =
      let m = mid_next s k (Ok None) e ∙ append-nil (points_to s k) in
      record { fine = verdict_next s k (Ok None) now.fine e; laid = now.laid ∙ ap padded (sym m); counted = now.counted ∙ ap length (sym m) }

  pub with_point : (p : BoundaryPoint) → before_at s k ≡ Ok (Some p) → count < 12 → Between s (set points count p) (count + 1) k
  with_point p e h =
      let m = mid_next s k (Ok (Some p)) e in
      let few : length (points_to s k) < 12 = omega (arith, now.counted) in
      record {
        fine = verdict_next s k (Ok (Some p)) now.fine e;
        laid = (λ n. set (now.laid n) (now.counted n) p) ∙ (put no_point (points_to s k) p few ∙ ap padded (sym m));
        counted = ap (λ (n : ℕ). n + 1) now.counted ∙ (sym (length-append (points_to s k) (p ∷ [])) ∙ ap length (sym m));
      }

-- there is room for a corner
pub room_corner : (s : Shape) (points : List BoundaryPoint) (count k : ℕ) → Between s points count k → k < s.sides → s.sides ≤ 6 → count < 12
room_corner s points count k mid h few = omega (arith, mid.counted, mid_count s k (omega arith), crossings_few s (suc k))

last_next : (s : Shape) (k : ℕ) (land : Landed) → land ≡ land_at s k → land ≡ last_at s (suc k)
unfolding last_at
last_next s k land e = e

module _ (s : Shape) (points : List BoundaryPoint) (count k : ℕ) (mid : Between s points count k) (land : Landed) (is : land ≡ land_at s k) where
  pub past_corners : s.sides ≤ k → Walking s points count land (suc k)
  past_corners h =
      let n = next_past s k h in
      record { fine = mid.fine; laid = mid.laid ∙ ap padded n; counted = mid.counted ∙ ap length n; came = last_next s k land is }

  pub with_corner : (p : BoundaryPoint) → p ≡ corner_point land.place → k < s.sides → s.sides ≤ 6 → Walking s (set points count p) (count + 1) land (suc k)
  with_corner p e h few =
      let point : p ≡ corner_point (land_at s k).place = e ∙ ap (λ (x : Landed). corner_point x.place) is in
      let n = ap (λ (x : BoundaryPoint). mid_points s k ++ (x ∷ [])) point ∙ next_in s k h in
      let room : length (mid_points s k) < 12 = omega (arith, mid.counted, room_corner s points count k mid h few) in
      record {
        fine = mid.fine;
        laid = (λ n. set (mid.laid n) (mid.counted n) p) ∙ (put no_point (mid_points s k) p room ∙ ap padded n);
        counted = ap (λ (n : ℕ). n + 1) mid.counted ∙ (sym (length-append (mid_points s k) (p ∷ [])) ∙ ap length n);
        came = last_next s k land is;
      }

-- A walk that is refused stays refused, by the first crossing point that was needed.
pub stays : (s : Shape) (k : ℕ) (r : Refusal) → verdict_to s k ≡ Err r → (n : ℕ) → k ≤ n → verdict_to s n ≡ Err r
unfolding verdict_to
stays s k r e zero h = let z : k ≡ 0 = omega arith in subst (λ (m : ℕ). verdict_to s m ≡ Err r) z e
stays s k r e (suc n) h =
    elim (dec_le k n) [
      | yes a ↦ ap (λ (v : Verdict). or_else v (verdict_before (before_at s n))) (stays s k r e n a)
      | no a ↦ let z : k ≡ suc n = omega arith in subst (λ (m : ℕ). verdict_to s m ≡ Err r) z e
    ]

pub stopped : (s : Shape) (k turns : ℕ) (r : Refusal) → verdict_to s k ≡ fine → before_at s k ≡ Err r → k < turns → Err r ≡ boundary_of (verdict_to s turns) (points_to s turns)
stopped s k turns r f e h =
    let v = stays s (suc k) r (verdict_next s k (Err r) f e) turns (omega arith) in
    ap (λ (x : Verdict). boundary_of x (points_to s turns)) (sym v)

pub ended : (s : Shape) (points : List BoundaryPoint) (count : ℕ) (last : Landed) (k : ℕ) → Walking s points count last k → Ok (record { count = count; points = points }) ≡ boundary_of (verdict_to s k) (points_to s k)
ended s points count last k w =
    (λ n. Ok (record { count = w.counted n; points = w.laid n })) ∙
    ap (λ (v : Verdict). boundary_of v (points_to s k)) (sym w.fine)

-- before the first turn
pub begun : (s : Shape) → Walking s (padded []) 0 (last_at s 0) 0
unfolding verdict_to points_to
begun s = record { fine = refl; laid = refl; counted = refl; came = refl }
