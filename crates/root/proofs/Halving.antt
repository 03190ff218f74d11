-- The 53 digits of a root in two halves: when they are right, and how they are worked out where the guess is not. Assumes nothing.
use mathlib.Core.Path.{◌≡◌, refl, sym, ap, ◌∙◌}
use Prim.Native.Nat.{ℕ, zero, suc, ◌+◌, ◌-◌, ◌*◌, ◌/◌, ◌%◌, ◌^◌, ◌≤◌, ◌<◌}
use native.Mathlib.Nat.{mul-le-mul, mul-le-mul_left, mul-mul-mul_comm, mul_right_comm, div-le_of_le-mul, mod-lt, div-add-mod', mul_comm}
use native.Mathlib.Omega.{arith}
use Rattle.root.specs.Root.{IsRoot}
use Rattle.root.specs.AsWorked.{NearRoot}
use Rattle.root.proofs.Squares.{square_more, root_le}

-- ---- the test

-- Without the first half's square, the square of the root and m · 2^52 differ by no more than the root itself.
pub near_root : (m h w : ℕ) → h * h ≤ m → h * w ≤ (m - h * h) * 2 ^ 25 + 2 ^ 30
    → w * w + 2 ^ 57 < ((m - h * h) * 2 ^ 25 + 2 ^ 30 - h * w) * 2 ^ 27 + (h * 2 ^ 26 + w)
    → ((m - h * h) * 2 ^ 25 + 2 ^ 30 - h * w) * 2 ^ 27 ≤ w * w + 2 ^ 57 + (h * 2 ^ 26 + w)
    → NearRoot (m * 2 ^ 52) (h * 2 ^ 26 + w)
near_root m h w a b c d =
    record { under = omega arith; over = omega arith }

-- ---- the root of m · 2^54 in two halves, from the root r of m by one division

pub root_under : (m r : ℕ) → m < 2 ^ 54 → r * r ≤ m → r < 2 ^ 27
root_under m r h l = omega (arith, root_le r (2 ^ 27 - 1) (omega arith))

module _ (m r : ℕ) (lo : 2 ^ 52 ≤ m) (p : IsRoot m r) where
  abbrev left : ℕ
  left = (m - r * r) * 2 ^ 27

  abbrev quo : ℕ
  quo = left / (r * 2)

  abbrev rem : ℕ
  rem = left % (r * 2)

  some : 2 ^ 26 ≤ r
  some = root_le (2 ^ 26) r (omega (arith, p.over))

  divided : (m - r * r) * 2 ^ 27 ≡ r * quo * 2 + rem
  divided = sym (div-add-mod' left (r * 2)) ∙ ap (λ (k : ℕ). k + rem) (mul_comm quo (r * 2) ∙ mul_right_comm r 2 quo)

  rem_small : rem < r * 2
  rem_small = mod-lt left (omega (arith, some))

  quo_small : quo ≤ 2 ^ 27
  quo_small = div-le_of_le-mul (r * 2) (omega (arith, p.over, square_more r))

  -- what keeps each step a word
  pub record Words : Type 0 where
    pub few : r < 2 ^ 27
    pub many : 2 ^ 26 ≤ r
    pub rest : m - r * r ≤ 2 * r
    pub quotient : quo ≤ 2 ^ 27
    pub square : quo * quo ≤ 2 ^ 54
    pub remainder : rem < r * 2

  pub words : m < 2 ^ 54 → Words
  words h = record {
    few = root_under m r h p.under;
    many = some;
    rest = omega (arith, p.over, square_more r);
    quotient = quo_small;
    square = mul-le-mul quo_small quo_small;
    remainder = rem_small;
  }

  pub halves_above : quo * quo ≤ rem * 2 ^ 27 → IsRoot (m * 2 ^ 54) (r * 2 ^ 27 + quo)
  halves_above h = record {
    under = omega (arith, p.under, divided);
    over = omega (arith, p.under, divided, rem_small, square_more (r * 2 ^ 27 + quo));
  }

  pub halves_below : rem * 2 ^ 27 < quo * quo → IsRoot (m * 2 ^ 54) (r * 2 ^ 27 + quo - 1)
  halves_below h =
      let t = r * 2 ^ 27 + quo - 1 in
      let e : t + 1 ≡ r * 2 ^ 27 + quo = omega (arith, some) in
      let f : (t + 1) * (t + 1) ≡ (r * 2 ^ 27 + quo) * (r * 2 ^ 27 + quo) = ap (λ (k : ℕ). k * k) e in
      let g : quo * quo ≤ quo * 2 ^ 27 = mul-le-mul_left quo quo_small in
      record {
        under = omega (arith, p.under, divided, square_more t, some, quo_small);
        over = omega (arith, p.under, divided);
      }

-- Half the root of 4 n, rounded up, is the whole number nearest to the root of n.
pub half_of : (n s : ℕ) → IsRoot (n * 4) s → 0 < s → NearRoot n ((s + 1) / 2)
half_of n s p h = go (s % 2) refl
  where
    go : (r : ℕ) → s % 2 ≡ r → NearRoot n ((s + 1) / 2)
    go zero e =
        let q = (s + 1) / 2 in
        let z : s ≡ q * 2 = omega arith in
        let a : s * s ≡ q * 2 * (q * 2) = ap (λ (k : ℕ). k * k) z in
        let b : q * 2 * (q * 2) ≡ q * q * 4 = mul-mul-mul_comm q 2 q 2 in
        record { under = omega (arith, p.under); over = omega (arith, p.over, square_more s) }
    go (suc r) e =
        let q = (s + 1) / 2 in
        let z : s + 1 ≡ q * 2 = omega arith in
        let a : (s + 1) * (s + 1) ≡ q * 2 * (q * 2) = ap (λ (k : ℕ). k * k) z in
        let b : q * 2 * (q * 2) ≡ q * q * 4 = mul-mul-mul_comm q 2 q 2 in
        record { under = omega (arith, p.under, square_more s); over = omega (arith, p.over) }

-- A product of halves is a word.
pub product_small : (a b : ℕ) → a < 2 ^ 27 → b < 2 ^ 27 → a * b < 2 ^ 54
product_small a b h k =
    let p : a ≤ 2 ^ 27 - 1 = omega arith in
    let q : b ≤ 2 ^ 27 - 1 = omega arith in
    omega (arith, mul-le-mul p q)
