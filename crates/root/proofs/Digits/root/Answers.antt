-- `Digits::root` meets its contract: by the guess where it is right, else by half of the root of four times as much. Assumes nothing.
use mathlib.Core.Path.{◌≡◌, subst}
use Prim.Native.Nat.{ℕ, ◌-◌, ◌*◌, ◌^◌, ◌≤◌, ◌<◌}
use native.Mathlib.Nat.{lt_of_le_of_lt}
use native.Mathlib.Omega.{arith}
use Rattle.root.specs.Root.{IsRoot}
use Rattle.root.proofs.Squares.{root_le}
use Rattle.root.proofs.Halving.{half_of}
use Rattle.root.proofs.Digits.root.Goals as goal

-- the root of m · 2^54 is above zero, and a word
sized : (m s : ℕ) → 2 ^ 52 ≤ m → m < 2 ^ 54 → IsRoot (m * 2 ^ 54) s → (0 < s) × (s < 2 ^ 54)
sized m s lo hi r = (root_le 1 s (lt_of_le_of_lt (omega arith) r.over), omega (arith, root_le s (2 ^ 54 - 1) (lt_of_le_of_lt r.under (omega arith))))

pub returns : goal.returns
returns c =
    let p = c.args.self in
    let m = p.m in
    let e : m * 2 ^ 54 ≡ m * 2 ^ 52 * 4 = omega arith in
    half_of (m * 2 ^ 52) _ (subst (λ (n : ℕ). IsRoot n c.whole_root.result) e c.whole_root.ensures) (sized m _ p.least (omega (arith, p.most)) c.whole_root.ensures).0
