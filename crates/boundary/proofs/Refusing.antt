-- A refused boundary is its number and zeros; unused points are zero; length 0 gives an empty boundary; a boundary has at most twelve points. Assumes nothing.
use mathlib.Core.Path.{◌≡◌, refl, sym, ap, subst}
use mathlib.Core.List.{List, []}
use Prim.Native.Nat.{ℕ, suc, ◌+◌, ◌-◌, ◌≤◌, ◌<◌}
use native.Mathlib.Decide.{ℕ_discrete}
use native.Mathlib.Numerals.{add-one}
use native.Mathlib.Omega.{arith}
use lib.ListN.{length, drop, replicate}
use lib.Seq.{drop_at}
use borrow.Author.Tests.{eq-eqb, ne_eqb}
use Rattle.std.specs.Prelude.{Err}
use Rattle.reply.specs.declared.Refusal.{Refusal}
use Rattle.reply.specs.Replies.{first, refusal, reply, Verdict, fine}
use Rattle.faceijk.specs.declared.Place.{Place}
use Rattle.boundary.specs.declared.BoundaryPoint.{BoundaryPoint}
use Rattle.boundary.specs.Boundaries.{points_to, crossings_to, or_else, verdict_to, turns_for, boundary_reasons, asked_shape, boundary_verdict, boundary_points, room_with, no_point, padded, boundary_values, boundary_reply}
use Rattle.boundary.proofs.Counting.{count_is, full_count, points_fit}
use Rattle.boundary.proofs.Verdicts.{turns_few}

-- A refused boundary is its number and zeros.
pub refused_zeros : (sides : ℕ) (p : Place) (l start n : ℕ) (r : Refusal) → boundary_verdict sides p l start n ≡ Err r → boundary_reply sides p l start n ≡ refusal 49 r
refused_zeros sides p l start n r e = ap (λ (v : Verdict). reply 49 v (boundary_values (boundary_points sides p l start n))) e

-- The points beyond the count are zero.
pub room_after : {A : Type 0} (z : A) (ps : List A) → drop (length ps) (room_with z ps) ≡ replicate (12 - length ps) z
unfolding room_with
room_after z ps = drop_at ps (replicate (12 - length ps) z) (length ps) refl

pub unused_zero : (ps : List BoundaryPoint) → drop (length ps) (padded ps) ≡ replicate (12 - length ps) no_point
unused_zero ps = room_after no_point ps

-- Length 0 gives an empty boundary, which only the tests can refuse.
pub empty : (sides : ℕ) (p : Place) (l start : ℕ) → 0 < sides → (boundary_points sides p l start 0 ≡ []) × (boundary_verdict sides p l start 0 ≡ or_else (first (boundary_reasons sides p l start 0)) fine)
unfolding boundary_points boundary_verdict points_to verdict_to
empty sides p l start h = let short = ne_eqb 0 sides (λ e. omega arith) in (rw short, rw short)

module _ (sides : ℕ) (p : Place) (l start n : ℕ) (within : n ≤ sides) where
  -- The count is the length and the number of crossing points.
  pub count_law : length (boundary_points sides p l start n) ≡ n + crossings_to (asked_shape sides p l start) (turns_for sides n)
  unfolding boundary_points
  count_law =
      let s = asked_shape sides p l start in
      elim (ℕ_discrete n sides) [
        | yes e ↦ rw (eq-eqb n sides e, add-one) (subst (λ (m : ℕ). length (points_to s (suc m)) ≡ m + crossings_to s (suc m)) (sym e) (full_count s))
        | no e ↦ rw (ne_eqb n sides e) (count_is s n within)
      ]

  -- The count is at most twelve.
  pub at_most_twelve : sides ≤ 6 → length (boundary_points sides p l start n) ≤ 12
  unfolding boundary_points
  at_most_twelve few = points_fit (asked_shape sides p l start) (turns_for sides n) (omega (arith, turns_few sides n within)) few
