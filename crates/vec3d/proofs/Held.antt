-- The squared distances that a loop over the faces has stored so far. Assumes nothing.
use mathlib.Core.Path.{◌≡◌, ◌∙◌}
use mathlib.Core.List.{List}
use Prim.Native.Nat.{ℕ, ◌+◌, ◌<◌}
use native.Mathlib.Nat.{not-suc-le-zero}
use native.Mathlib.Omega.{arith}
use borrow.Author.Count.{below_more}
use lib.ListN.{length, set, length-set}
use lib.Seq.{get_or-set_same, get_or-set_other}
use lib.Ieee.{Float, nan}
use Rattle.vec3d.specs.declared.Vec3d.{Vec3d}
use Rattle.vec3d.specs.Nearest.{distance_of}
use Rattle.vec3d.specs.AsAsked.{distance_at, Distances}

-- room for twenty, and in it the distances of the faces below f
pub record Held (s : List Float) (p : Vec3d) (f : ℕ) (far : List Float) : Type 0 where
  pub long : length far ≡ 20
  pub each : (k : ℕ) → k < f → distance_at far k ≡ distance_of s p k

module _ (s : List Float) (p : Vec3d) (far : List Float) where
  pub none_held : length far ≡ 20 → Held s p 0 far
  none_held h = record { long = h; each = λ k l. absurd (not-suc-le-zero l) }

  pub one_more : (f : ℕ) (d : Float) → f < 20 → Held s p f far → d ≡ distance_of s p f → Held s p (f + 1) (set far f d)
  one_more f d h w e =
      record {
        long = length-set far f d ∙ w.long;
        each =
            below_more (λ (k : ℕ). distance_at (set far f d) k ≡ distance_of s p k) f
            (λ k l. get_or-set_other far f k d nan (λ q. absurd (omega arith)) ∙ w.each k l)
            (get_or-set_same far f d nan (omega (arith, w.long)) ∙ e);
      }

  pub all_held : (f : ℕ) → f ≡ 20 → Held s p f far → Distances s p far
  all_held f e w = record { each = λ k l. w.each k (omega arith) }
