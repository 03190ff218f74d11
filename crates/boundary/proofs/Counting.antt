-- How many points a boundary has: its corners and its crossing points, of which there are fewer than turns. Assumes nothing.
use mathlib.Core.Path.{◌≡◌, refl, sym, ap, ◌∙◌, subst}
use mathlib.Core.List.{List, [], ◌∷◌, ◌++◌, append_assoc, append-nil}
use Prim.Native.Nat.{ℕ, zero, suc, ◌+◌, ◌-◌, ◌≤◌, ◌<◌}
use native.Mathlib.Decide.{dec_le}
use native.Mathlib.Omega.{arith}
use lib.ListN.{length, length-append}
use borrow.Author.Tests.{lt-ltb, le-ltb}
use Rattle.reply.specs.declared.Refusal.{Refusal}
use Rattle.std.specs.Prelude.{Ok, Err, Result, Option, Some, None}
use Rattle.boundary.specs.declared.Shape.{Shape}
use Rattle.boundary.specs.declared.BoundaryPoint.{BoundaryPoint}
use Rattle.boundary.specs.Landing.{land_at}
use Rattle.boundary.specs.CrossingPoints.{corner_point, before_at}
use Rattle.boundary.specs.Boundaries.{points_before, points_in, points_to, crossings_to}

-- at most one crossing point stands before a corner, and none before the first
one_before : (b : Result (Option BoundaryPoint) Refusal) → length (points_before b) ≤ 1
one_before (Ok None) = omega arith
one_before (Ok (Some p)) = omega arith
one_before (Err r) = omega arith

none_first : (s : Shape) → before_at s 0 ≡ Ok None
unfolding before_at
none_first s = refl

-- There are fewer crossing points than turns.
pub crossings_few : (s : Shape) (k : ℕ) → crossings_to s k ≤ k - 1
unfolding crossings_to
crossings_few s zero = omega arith
crossings_few s (suc zero) = rw (none_first s) (omega arith)
crossings_few s (suc (suc k)) = omega (arith, crossings_few s (suc k), one_before (before_at s (suc k)))

-- the points of the first k turns and the crossing point of turn k
abbrev pub mid_points : Shape → ℕ → List BoundaryPoint
mid_points s k = points_to s k ++ points_before (before_at s k)

pub next_in : (s : Shape) (k : ℕ) → k < s.sides → mid_points s k ++ (corner_point (land_at s k).place ∷ []) ≡ points_to s (suc k)
unfolding points_to points_in
next_in s k h = rw (lt-ltb k s.sides h) (append_assoc (points_to s k) (points_before (before_at s k)) _)

pub next_past : (s : Shape) (k : ℕ) → s.sides ≤ k → mid_points s k ≡ points_to s (suc k)
unfolding points_to points_in
next_past s k h = rw (le-ltb k s.sides h, append-nil)

-- As far as the corners go, there are as many points as turns and crossing points.
pub count_is : (s : Shape) (k : ℕ) → k ≤ s.sides → length (points_to s k) ≡ k + crossings_to s k
unfolding crossings_to points_to
count_is s zero h = refl
count_is s (suc k) h =
    ap length (sym (next_in s k (omega arith))) ∙
    (length-append (mid_points s k) _ ∙ omega (arith, length-append (points_to s k) (points_before (before_at s k)), count_is s k (omega arith)))

pub mid_count : (s : Shape) (k : ℕ) → k ≤ s.sides → length (mid_points s k) ≡ k + crossings_to s (suc k)
unfolding crossings_to
mid_count s k h = length-append (points_to s k) _ ∙ omega (arith, count_is s k h)

-- a full length has a turn more, which adds no corner
pub full_count : (s : Shape) → length (points_to s (suc s.sides)) ≡ s.sides + crossings_to s (suc s.sides)
full_count s = ap length (sym (next_past s s.sides (omega arith))) ∙ mid_count s s.sides (omega arith)

-- A boundary has at most twelve points.
pub points_fit : (s : Shape) (k : ℕ) → k ≤ s.sides + 1 → s.sides ≤ 6 → length (points_to s k) ≤ 12
points_fit s k h few =
    elim (dec_le k s.sides) [
      | yes a ↦ omega (arith, count_is s k a, crossings_few s k)
      | no a ↦
          let e : suc s.sides ≡ k = omega arith in
          subst (λ (n : ℕ). length (points_to s n) ≤ 12) e (omega (arith, full_count s, crossings_few s (suc s.sides)))
    ]
