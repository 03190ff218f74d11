-- A test computed at each number below a bound holds at each of them: how a table's rule is proved once. Assumes nothing.
use mathlib.Core.Path.{subst, sym}
use mathlib.Core.Bool.{Bool, true, ◌&&◌}
use Prim.Native.Nat.{ℕ, zero, suc, ◌<◌}
use native.Mathlib.Nat.{not-suc-le-zero}
use native.Mathlib.Decide.{ℕ_discrete}
use native.Mathlib.Omega.{arith}
use lib.Dec.{T}
use lib.Ieee.Fits.{and_l, and_r}

-- the test t passes at each number below n
abbrev pub all : (ℕ → Bool) → ℕ → Bool
all t zero = true
all t (suc n) = t n && all t n

pub at : (t : ℕ → Bool) (n : ℕ) → T (all t n) → (k : ℕ) → k < n → T (t k)
at t zero h k l = absurd (not-suc-le-zero l)
at t (suc n) h k l =
    elim (ℕ_discrete k n) [
      | yes e ↦ subst (λ (m : ℕ). T (t m)) (sym e) (and_l (t n) (all t n) h)
      | no e ↦ at t n (and_r (t n) (all t n) h) k (omega arith)
    ]
