-- How true a margin is: with the exact leftovers it would be the same but for less than 2^-51, and it is above -(2^-41 + 2^-51). Assumes nothing.
use Rattle.std.proofs.Common.{◌≡◌, ℕ, ◌+◌, ◌-◌, ◌*◌, ◌/◌, ◌^◌, ◌<◌, ◌≤◌, Bool, true, false, refl, le_trans, mul-le-mul_right, lt_of_mul-lt-mul_right, mul-le-mul_left, div-mul-le_self, arith, lit<}
use native.Mathlib.Nat.{lt-div-mul-add}
use Rattle.double.specs.Double.{size_of}
use Rattle.vec2d.specs.declared.Leftovers.{Leftovers}
use Rattle.vec2d.specs.declared.Steps.{Steps}
use Rattle.vec2d.specs.Rounding.{steps_of}
use Rattle.vec2d.proofs.Branches.{Within, chosen_within}
use Rattle.margin.specs.Margins.{parts_of, step_of, reach_in, reach_of}
use Rattle.margin.proofs.Neighbours.{within_reach, reach_within}
use Rattle.margin.proofs.Scaling.{Fraction, parts_told}

-- ---- hexagons counted in another unit

one_divided : (k x y t : ℕ) → 0 < k → k * x ≤ k * y + t → x ≤ y + t / k
one_divided k x y t o h =
    let below : x * k < (y + t / k + 1) * k = omega (arith, lt-div-mul-add {a = t} {b = k} o) in
    let less = lt_of_mul-lt-mul_right k below in
    omega arith

-- A hexagon of size t in k times as fine a unit has the size t / k.
divided : (k p q r s t : ℕ) → 0 < k → Within (k * p) (k * q) (k * r) (k * s) t → Within p q r s (t / k)
divided k p q r s t o w = record {
  i = one_divided k (2 * p + s) (2 * q + r) t o (omega (arith, w.i));
  i' = one_divided k (2 * q + r) (2 * p + s) t o (omega (arith, w.i'));
  j = one_divided k (2 * r + q) (2 * s + p) t o (omega (arith, w.j));
  j' = one_divided k (2 * s + p) (2 * r + q) t o (omega (arith, w.j'));
  ij = one_divided k (p + r) (q + s) t o (omega (arith, w.ij));
  ij' = one_divided k (q + s) (p + r) t o (omega (arith, w.ij'));
}

-- a step in another unit
stepped : (k u : ℕ) (b : Bool) → k * step_of u b ≡ step_of (k * u) b
stepped k u true = refl
stepped k u false = omega arith

-- ---- whole parts for the exact leftovers: x is d · m and y is d · n, each less than d below 2^51 times the exact ones; c is 2d - 1

module _ (d c a b x y i j : ℕ) (e : c + 1 ≡ 2 * d) (p : x ≤ 2 ^ 51 * a) (p' : 2 ^ 51 * a < x + d) (q : y ≤ 2 ^ 51 * b) (q' : 2 ^ 51 * b < y + d) where
  coarser : (t : ℕ) → Within a i b j t → Within x (2 ^ 51 * i) y (2 ^ 51 * j) (2 ^ 51 * t + c)
  coarser t w = record {
    i = omega (arith, w.i);
    i' = omega (arith, w.i');
    j = omega (arith, w.j);
    j' = omega (arith, w.j');
    ij = omega (arith, w.ij);
    ij' = omega (arith, w.ij');
  }

  finer : (t : ℕ) → Within x (2 ^ 51 * i) y (2 ^ 51 * j) t → Within (2 ^ 51 * a) (2 ^ 51 * i) (2 ^ 51 * b) (2 ^ 51 * j) (t + c)
  finer t w = record {
    i = omega (arith, w.i);
    i' = omega (arith, w.i');
    j = omega (arith, w.j);
    j' = omega (arith, w.j');
    ij = omega (arith, w.ij);
    ij' = omega (arith, w.ij');
  }

multiplied : (k p q r s t : ℕ) → Within p q r s t → Within (k * p) (k * q) (k * r) (k * s) (k * t)
multiplied k p q r s t w = record {
  i = omega (arith, mul-le-mul_left k w.i);
  i' = omega (arith, mul-le-mul_left k w.i');
  j = omega (arith, mul-le-mul_left k w.j);
  j' = omega (arith, mul-le-mul_left k w.j');
  ij = omega (arith, mul-le-mul_left k w.ij);
  ij' = omega (arith, mul-le-mul_left k w.ij');
}

-- Leftovers whose exact values are a / d and b / d.
module _ (l : Leftovers) (d a b : ℕ) (f : Fraction (size_of l.r1) a d) (g : Fraction (size_of l.r2) b d) where
  abbrev s : Steps
  s = steps_of (size_of l.r1) (size_of l.r2)

  abbrev m : ℕ
  m = parts_of (size_of l.r1)

  abbrev n : ℕ
  n = parts_of (size_of l.r2)

  -- the reach that the exact leftovers have, in d-ths
  abbrev exact : ℕ
  exact = reach_in d a b s

  some : 0 < d
  some = omega (arith, f.low)

  told : (d * m ≤ 2 ^ 51 * a) × (2 ^ 51 * a < d * m + d)
  told = let t = parts_told (size_of l.r1) a d f in (omega (arith, t.0), omega (arith, t.1))

  told₂ : (d * n ≤ 2 ^ 51 * b) × (2 ^ 51 * b < d * n + d)
  told₂ = let t = parts_told (size_of l.r2) b d g in (omega (arith, t.0), omega (arith, t.1))

  -- steps of 2^51 in d-ths are steps of d in 2^51sts
  across : (up : Bool) → d * step_of (2 ^ 51) up ≡ 2 ^ 51 * step_of d up
  across true = omega arith
  across false = omega arith

  abbrev c : ℕ
  c = 2 * d - 1

  twice : c + 1 ≡ 2 * d
  twice = let o = some in omega arith

  -- The reach is that of the exact leftovers but for less than two parts, each way.
  pub reach_above : reach_of l * d < 2 ^ 51 * exact + 2 * d
  reach_above =
      let w = coarser d c a b (d * m) (d * n) (step_of d s.i) (step_of d s.j) twice told.0 told.1 told₂.0 told₂.1 exact (within_reach d a b s) in
      let v = divided d m (step_of (2 ^ 51) s.i) n (step_of (2 ^ 51) s.j) (2 ^ 51 * exact + c) some (rw (across s.i, across s.j) w) in
      let low = le_trans (mul-le-mul_right d (reach_within (2 ^ 51) m n s _ v)) (div-mul-le_self (2 ^ 51 * exact + c) d) in
      omega (arith, low, twice)

  pub reach_below : 2 ^ 51 * exact < reach_of l * d + 2 * d
  reach_below =
      let x = multiplied d m (step_of (2 ^ 51) s.i) n (step_of (2 ^ 51) s.j) (reach_of l) (within_reach (2 ^ 51) m n s) in
      let w = finer d c a b (d * m) (d * n) (step_of d s.i) (step_of d s.j) twice told.0 told.1 told₂.0 told₂.1 (d * reach_of l) (rw (across s.i, across s.j) at x) in
      let v = divided (2 ^ 51) a (step_of d s.i) b (step_of d s.j) (d * reach_of l + c) (lit< tt) w in
      omega (arith, twice, mul-le-mul_left (2 ^ 51) (reach_within d a b s _ v), div-mul-le_self (d * reach_of l + c) (2 ^ 51))

  -- By the tests of the branches the exact reach is at most d, but for 2^-40 of it.
  exact_low : 2 ^ 40 * exact ≤ 2 ^ 40 * d + d
  exact_low =
      let w = chosen_within (size_of l.r1) (size_of l.r2) d a b f.low g.low f.value g.value in
      let v = divided (2 ^ 40) a (step_of d s.i) b (step_of d s.j) (2 ^ 40 * d + d) (lit< tt) (rw (stepped (2 ^ 40) d s.i, stepped (2 ^ 40) d s.j) w) in
      omega (arith, mul-le-mul_left (2 ^ 40) (reach_within d a b s _ v), div-mul-le_self (2 ^ 40 * d + d) (2 ^ 40))

  -- So the margin is above -(2^-41 + 2^-51): that is said in 2^52nds, with the reach on the other side.
  pub reach_low : reach_of l < 2 ^ 51 + 2 ^ 11 + 2
  reach_low = lt_of_mul-lt-mul_right d (omega (arith, reach_above, exact_low))
