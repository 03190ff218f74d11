-- `root_bits` meets its contract: half the power and the digits of the root are the pattern of the root. Assumes nothing.
use Prim.Native.Nat.{ℕ, ◌+◌, ◌-◌, ◌*◌, ◌/◌, ◌^◌, ◌≤◌, ◌<◌}
use native.Mathlib.Omega.{arith}
use Rattle.root.proofs.Rounding.{bits_root}
use Rattle.root.proofs.root_bits.Goals as goal

bounded : (p q : ℕ) → p ≤ 3120 → q < 2 ^ 53 → (p - 52) / 2 * 2 ^ 52 + q < 2047 * 2 ^ 52
bounded p q h k = omega arith

pub returns-clause-value : goal.returns-clause-value
returns-clause-value c = bits_root _ _ _ _ c.radicand-s.ensures c.root.ensures
