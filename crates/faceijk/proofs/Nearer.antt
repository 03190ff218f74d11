-- A step over the edge that a place lies beyond brings it nearer to the face's centre. Assumes nothing.
use mathlib.Core.Path.{◌≡◌, refl, sym, ap, ◌∙◌, subst}
use mathlib.Core.Bool.{Bool, true, false}
use Prim.Native.Nat.{ℕ, ◌+◌, ◌-◌, ◌*◌, ◌≤◌, ◌<◌, max}
use native.Mathlib.Decide.{dec_lt}
use native.Mathlib.Omega.{arith}
use borrow.Author.Tests.{lt-ltb, le-ltb}
use Rattle.coordijk.specs.Coordinates.{least, least_of, largest_of, reduced, norm, Q}
use Rattle.coordijk.proofs.Distance.{outweigh, Q_reduced}
use Rattle.coordijk.proofs.Reducing.{reduced_flat}
use Rattle.faceijk.specs.declared.Place.{Place}
use Rattle.faceijk.specs.Places.{place, coord_of, sum_at, QAt}
use Rattle.faceijk.specs.Steps.{polar, step_of}
use Rattle.faceijk.specs.Crossing.{edge_out}
use Rattle.faceijk.proofs.Stepping.{step_1, step_3, step_5, jk_move, polar_ij, polar_ki, equator_ij, equator_ki}

-- the distance of what a step lays out beyond m: x + m, y + m and x + y, in three orders
module _ (x y m d : ℕ) (h : x + y ≡ m + d) where
  drop_1 : norm (x + y) (y + m) (x + m) + m * d ≡ norm x y 0
  drop_1 = omega (arith, outweigh x y 0, outweigh (x + y) (y + m) (x + m), ap (λ (t : ℕ). m * t) h)

  drop_2 : norm (x + m) (x + y) (y + m) + m * d ≡ norm x y 0
  drop_2 = omega (arith, drop_1)

  drop_3 : norm (y + m) (x + m) (x + y) + m * d ≡ norm x y 0
  drop_3 = omega (arith, drop_1)

-- and its largest coordinate, reduced
module _ (m x y n : ℕ) (far : m < x + y) (low : max x y ≤ n) where
  below_1 : let l = least (x + y) (y + m) (x + m) in ((x + y) - l ≤ n) × ((y + m) - l ≤ n) × ((x + m) - l ≤ n)
  below_1 = omega arith

  below_2 : let l = least (x + m) (x + y) (y + m) in ((x + m) - l ≤ n) × ((x + y) - l ≤ n) × ((y + m) - l ≤ n)
  below_2 = omega arith

  below_3 : let l = least (y + m) (x + m) (x + y) in ((y + m) - l ≤ n) × ((x + m) - l ≤ n) × ((x + y) - l ≤ n)
  below_3 = omega arith

max_le : (a b c n : ℕ) → a ≤ n → b ≤ n → c ≤ n → max a (max b c) ≤ n
max_le a b c n p q r = omega arith

-- what demand 3 says of a crossing from p to q at the limit m: Q drops by exactly m(s - m), the largest coordinate does not rise
pub record Nearer (p q : Place) (m : ℕ) : Type 0 where
  pub drop : QAt q + m * (sum_at p - m) ≡ QAt p
  pub no_larger : largest_of (coord_of q) ≤ largest_of (coord_of p)
  pub flat : least_of (coord_of q) ≡ 0

-- p has the coordinates x, y and 0 in some order, and lies beyond m
module _ (p : Place) (g x y m : ℕ) (far : m < x + y) (qp : QAt p ≡ norm x y 0) (sp : sum_at p ≡ x + y) (lp : max x y ≤ largest_of (coord_of p)) where
  near : (a b c : ℕ) → norm a b c + m * (x + y - m) ≡ norm x y 0 → let l = least a b c in let n = largest_of (coord_of p) in (a - l ≤ n) × (b - l ≤ n) × (c - l ≤ n) → Nearer p (place g (reduced a b c)) m
  unfolding reduced
  near a b c dr ls =
      record {
        drop = ap (λ (t : ℕ). t + m * (sum_at p - m)) (Q_reduced a b c) ∙ (ap (λ (t : ℕ). norm a b c + m * (t - m)) sp ∙ (dr ∙ sym qp));
        no_larger = max_le _ _ _ _ ls.0 ls.1 ls.2;
        flat = reduced_flat a b c;
      }

  near_1 : Nearer p (place g (reduced (x + y) (y + m) (x + m))) m
  near_1 = near _ _ _ (drop_1 x y m (x + y - m) (omega arith)) (below_1 m x y _ far lp)

  near_2 : Nearer p (place g (reduced (x + m) (x + y) (y + m))) m
  near_2 = near _ _ _ (drop_2 x y m (x + y - m) (omega arith)) (below_2 m x y _ far lp)

  near_3 : Nearer p (place g (reduced (y + m) (x + m) (x + y))) m
  near_3 = near _ _ _ (drop_3 x y m (x + y - m) (omega arith)) (below_3 m x y _ far lp)

-- the three edges, each from where crossing steps over it
module _ (p : Place) (u : ℕ) (far : 2 * u < sum_at p) where
  to : (q : Place) (g a b c x y z : ℕ) → q ≡ place g (reduced a b c) → (a ≡ x) × (b ≡ y) × (c ≡ z) → Nearer p (place g (reduced x y z)) (2 * u) → Nearer p q (2 * u)
  to q g a b c x y z e h = subst (λ (r : Place). Nearer p r (2 * u)) (sym (e ∙ (λ n. place g (reduced (h.0 n) (h.1 n) (h.2 n)))))

  over_jk : p.i ≡ 0 → Nearer p (step_of p 3 u) (2 * u)
  unfolding Q
  over_jk h =
      to _ _ _ _ _ _ _ _ (step_3 p 3 u 0 2 2 (jk_move p.face)) (omega arith)
      (near_1 p _ p.j p.k (2 * u) (omega arith) (ap (λ (t : ℕ). norm t p.j p.k) h ∙ omega arith) (omega arith) (omega arith))

  over_ij : (b : Bool) → polar p.face ≡ b → p.k ≡ 0 → Nearer p (step_of p 1 u) (2 * u)
  unfolding Q
  over_ij true e h =
      to _ _ _ _ _ _ _ _ (step_1 p 1 u 2 0 2 (polar_ij p.face e)) (omega arith)
      (near_2 p _ p.i p.j (2 * u) (omega arith) (ap (norm p.i p.j) h) (omega arith) (omega arith))
  over_ij false e h =
      to _ _ _ _ _ _ _ _ (step_3 p 1 u 2 2 0 (equator_ij p.face e)) (omega arith)
      (near_3 p _ p.i p.j (2 * u) (omega arith) (ap (norm p.i p.j) h) (omega arith) (omega arith))

  over_ki : (b : Bool) → polar p.face ≡ b → p.j ≡ 0 → Nearer p (step_of p 2 u) (2 * u)
  unfolding Q
  over_ki true e h =
      to _ _ _ _ _ _ _ _ (step_5 p 2 u 2 2 0 (polar_ki p.face e)) (omega arith)
      (near_3 p _ p.k p.i (2 * u) (omega arith) (ap (λ (t : ℕ). norm p.i t p.k) h ∙ omega arith) (omega arith) (omega arith))
  over_ki false e h =
      to _ _ _ _ _ _ _ _ (step_3 p 2 u 2 0 2 (equator_ki p.face e)) (omega arith)
      (near_2 p _ p.k p.i (2 * u) (omega arith) (ap (λ (t : ℕ). norm p.i t p.k) h ∙ omega arith) (omega arith) (omega arith))

  -- demand 3 of one crossing, over whichever edge it goes
  pub nearer : least_of (coord_of p) ≡ 0 → Nearer p (step_of p (edge_out p) u) (2 * u)
  nearer r =
      elim (dec_lt 0 p.k) [
        | yes a ↦ elim (dec_lt 0 p.j) [
          | yes b ↦ simp (lt-ltb 0 _ a, lt-ltb 0 _ b) (over_jk (omega arith))
          | no b ↦ simp (lt-ltb 0 _ a, le-ltb 0 p.j (omega arith)) (over_ki _ refl (omega arith))
        ]
        | no a ↦ simp (le-ltb 0 p.k (omega arith)) (over_ij _ refl (omega arith))
      ]
