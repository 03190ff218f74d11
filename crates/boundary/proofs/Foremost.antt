-- The refusal given is the foremost, and a crossing point's, 12 or 13, comes after all others. Assumes nothing.
use mathlib.Core.Path.{◌≡◌, refl, ap, ◌∙◌}
use mathlib.Core.Bool.{Bool, true, false}
use mathlib.Core.Logic.{◌⊎◌, inl, inr}
use mathlib.Core.List.{List, [], ◌∷◌}
use Prim.Native.Nat.{ℕ, ◌<◌}
use native.Mathlib.Omega.{arith}
use Rattle.std.specs.Prelude.{Ok, Err}
use Rattle.reply.specs.Choice.{pick}
use Rattle.reply.specs.declared.Refusal.{Refusal}
use Rattle.reply.specs.Replies.{number_of, Reason, first, Verdict, fine}
use Rattle.reply.specs.Order.{Each, Foremost}
use Rattle.reply.proofs.Foremost.{foremost}
use Rattle.faceijk.specs.declared.Place.{Place}
use Rattle.boundary.specs.Corners.{corners_reasons, corners_verdict}
use Rattle.boundary.specs.Boundaries.{or_else, boundary_reasons}

-- Corners give the foremost of 3, 4 and 10 that applies.
pub corners_foremost : (p : Place) (l : ℕ) → Foremost (corners_reasons p l) (corners_verdict p l)
corners_foremost p l = foremost 0 (corners_reasons p l) (omega arith, (omega arith, (omega arith, tt)))

-- The tests of a boundary give the foremost of 3, 4, 5, 10 and 11 that applies.
pub boundary_foremost : (sides : ℕ) (p : Place) (l start n : ℕ) → Foremost (boundary_reasons sides p l start n) (first (boundary_reasons sides p l start n))
boundary_foremost sides p l start n =
    foremost 0 (boundary_reasons sides p l start n) (omega arith, (omega arith, (omega arith, (omega arith, (omega arith, tt)))))

-- a verdict by reasons that all have numbers below m has one below m
below : (m : ℕ) (rs : List Reason) → Each (λ (x : Reason). number_of x.refusal < m) rs → (r : Refusal) → first rs ≡ Err r → number_of r < m
below m [] h r e = let z : ◌≡◌ {A = ℕ} 0 1 = cc in absurd (omega arith)
below m (x ∷ rs) h r e = go x.applies refl (below m rs h.1 r)
  where
    go : (b : Bool) → b ≡ x.applies → (first rs ≡ Err r → number_of r < m) → number_of r < m
    go true a f =
        let same : Err x.refusal ≡ Err r = ap (λ (t : Bool). pick t (Err x.refusal) (first rs)) a ∙ e in
        let is : x.refusal ≡ r = cc in
        rw (← is) h.0
    go false a f = f (ap (λ (t : Bool). pick t (Err x.refusal) (first rs)) a ∙ e)

-- A refusal by the tests of a boundary has a number below 12.
pub tests_below : (sides : ℕ) (p : Place) (l start n : ℕ) (r : Refusal) → first (boundary_reasons sides p l start n) ≡ Err r → number_of r < 12
tests_below sides p l start n r e =
    below 12 (boundary_reasons sides p l start n) (omega arith, (omega arith, (omega arith, (omega arith, (omega arith, tt))))) r e

-- a verdict by two stages
pub one_refused : (a b : Verdict) (r : Refusal) → or_else a b ≡ Err r → (a ≡ Err r) ⊎ ((a ≡ fine) × (b ≡ Err r))
one_refused (Ok _) b r e = inr (refl, e)
one_refused (Err s) b r e = inl e

pub both_fine : (a b : Verdict) → or_else a b ≡ fine → (a ≡ fine) × (b ≡ fine)
both_fine (Ok _) b e = (refl, e)
both_fine (Err r) b e = let z : ◌≡◌ {A = ℕ} 0 1 = cc in absurd (omega arith)
