-- The root of a whole number: there is one only, and `whole_root` is it. Assumes nothing.
use mathlib.Core.Path.{◌≡◌, sym, subst}
use mathlib.Core.Bool.{Bool, true, false, not}
use Prim.Native.Nat.{ℕ, zero, suc, ◌+◌, ◌*◌, ◌/◌, ◌^◌, ◌≤◌, ◌<◌}
use native.Mathlib.Nat.{le_trans, le_of_eq, le_of_suc-le-suc, le_antisymm, lt_of_lt_of_le, lt_of_le_of_lt, lt_of_not-le, lt_irrefl, mul-le-mul, pow-suc, pow-le-pow_left}
use native.Mathlib.Omega.{arith}
use lib.Dec.{T, leb, leb→le, nleb→lt, lit≤}
use lib.Ieee.{size}
use lib.Ieee.Digits.{size-lt}
use Rattle.reply.specs.Choice.{pick}
use Rattle.root.specs.Root.{IsRoot, raised, root_upto, whole_root}

pub square_more : (r : ℕ) → (r + 1) * (r + 1) ≡ r * r + 2 * r + 1
square_more r = omega arith

square_twice : (r : ℕ) → (r * 2) * (r * 2) ≡ r * r * 4
square_twice r = omega arith

-- A number with a smaller square is smaller.
pub root_le : (r s : ℕ) → r * r < (s + 1) * (s + 1) → r ≤ s
root_le r s h = le_of_suc-le-suc (lt_of_not-le (λ (g : suc s ≤ r). lt_irrefl (r * r) (lt_of_lt_of_le h (mul-le-mul (more g) (more g)))))
  where
    more : suc s ≤ r → s + 1 ≤ r
    more g = omega arith

-- Two whole numbers that are the root of one number are one.
pub root_unique : (n r s : ℕ) → IsRoot n r → IsRoot n s → r ≡ s
root_unique n r s p q = le_antisymm (root_le r s (lt_of_le_of_lt p.under q.over)) (root_le s r (lt_of_le_of_lt q.under p.over))

raised_root : (n r : ℕ) → r * r * 4 ≤ n → n < (r + 1) * (r + 1) * 4 → IsRoot n (raised n (r * 2))
unfolding raised
raised_root n r lo hi = go (leb ((r * 2 + 1) * (r * 2 + 1)) n) (leb→le ((r * 2 + 1) * (r * 2 + 1)) n) (nleb→lt ((r * 2 + 1) * (r * 2 + 1)) n)
  where
    two_more : (r * 2 + 1 + 1) * (r * 2 + 1 + 1) ≡ (r + 1) * (r + 1) * 4
    two_more = omega (arith, square_more (r * 2 + 1), square_more (r * 2), square_twice r, square_more r)

    go : (b : Bool) → (T b → (r * 2 + 1) * (r * 2 + 1) ≤ n) → (T (not b) → n < (r * 2 + 1) * (r * 2 + 1)) → IsRoot n (pick b (r * 2 + 1) (r * 2))
    go true h k = record { under = h tt; over = lt_of_lt_of_le hi (le_of_eq (sym two_more)) }
    go false h k = record { under = le_trans (le_of_eq (square_twice r)) lo; over = k tt }

root_upto_lem : (k n : ℕ) → n < 4 ^ k → IsRoot n (root_upto k n)
unfolding root_upto
root_upto_lem zero n h = record { under = omega arith; over = omega arith }
root_upto_lem (suc k) n h =
    let p : n < 4 ^ k * 4 = subst (λ (x : ℕ). n < x) (pow-suc 4 k) h in
    let ih = root_upto_lem k (n / 4) (omega arith) in
    raised_root n (root_upto k (n / 4)) (omega (arith, ih.under)) (omega (arith, ih.over))

pub whole_root_is : (n : ℕ) → IsRoot n (whole_root n)
unfolding whole_root
whole_root_is n = root_upto_lem (size n) n (lt_of_lt_of_le (size-lt n) (pow-le-pow_left (lit≤ tt) (size n)))
