-- The root that is given is the nearest double: no other double is as near to the exact root, so it is the only one. Assumes nothing.
use mathlib.Core.Path.{◌≡◌, refl, sym, ap, ◌∙◌, subst}
use mathlib.Core.Bool.{true, false, false≢true}
use Prim.Native.Nat.{ℕ, suc, ◌+◌, ◌-◌, ◌*◌, ◌/◌, ◌^◌, ◌≤◌, ◌<◌}
use native.Mathlib.Decide.{dec_le, ℕ_discrete}
use native.Mathlib.Nat.{le_trans, le_of_eq, le_of_lt, lt_of_lt_of_le, lt_of_le_of_lt, lt_of_not-le, lt_irrefl, mul_assoc, mul-le-mul, mul-le-mul_right, mul-lt-mul_of_pos_right, lt_of_mul-lt-mul_right, mul-pos}
use native.Mathlib.Omega.{arith}
use lib.Dec.{T}
use lib.Pow.{pow-add, pow_pos, pow_mono}
use lib.Ieee.{Float, nan, inf, fin, binary64, fits, size, to_bits, round}
use lib.Ieee.Digits.{back}
use lib.Ieee.Exact.{HasValue}
use lib.Ieee.Fits.{round-fits}
use Rattle.double.specs.Double.{finite, size_of}
use Rattle.double.specs.Sizes.{units_of}
use Rattle.double.proofs.Sign.{same_bits}
use Rattle.double.proofs.Sizes.{round_size}
use Rattle.double.proofs.Nonnegative.{signed}
use Rattle.double.proofs.Units.{L, units_of_lem, OnGrid, on_grid, equals_of}
use Rattle.root.specs.Root.{IsRoot, whole_root, radicand_of, root_of, Nearer, NearestRoot}
use Rattle.root.specs.AsWorked.{NearRoot, Scaling, units_of_bits, Positive}
use Rattle.root.proofs.Squares.{root_le, whole_root_is}
use Rattle.root.proofs.Halving.{half_of}
use Rattle.root.proofs.Scale.{radicand as scaled}
use Rattle.root.proofs.Rules.{pattern_bounds, pattern_units, root_is}
use Rattle.root.proofs.Rounding.{digits_least, root_value, halved, whole_root_of}

-- ---- the doubles, as numbers M · 2^x of units

-- A double above q · 2^k, for a q of 53 digits, is at least (q + 1) · 2^k; and one below it at most (q - 1) · 2^k, where q is not the least of its digits.
module _ (q k n : ℕ) (g : OnGrid n) where
  -- the lower end of the numbers with these digits, where n has a smaller power
  lower : g.power < k → n < 2 ^ 52 * 2 ^ k
  lower h =
      lt_of_le_of_lt (le_of_eq g.is)
      (lt_of_lt_of_le (mul-lt-mul_of_pos_right g.few (pow_pos g.power))
      (le_trans (le_of_eq (sym (pow-add 2 53 g.power))) (le_trans (pow_mono (more g.power h)) (le_of_eq (pow-add 2 52 k)))))
    where
      more : (x : ℕ) → x < k → 53 + x ≤ 52 + k
      more x h = omega arith

  -- and where it has not, n is a multiple of 2^k
  multiple : k ≤ g.power → n ≡ g.digits * 2 ^ (g.power - k) * 2 ^ k
  multiple h =
      g.is ∙ (ap (λ (x : ℕ). g.digits * 2 ^ x) (sym (back g.power k h))
      ∙ (ap (λ (x : ℕ). g.digits * x) (pow-add 2 (g.power - k) k) ∙ sym (mul_assoc g.digits (2 ^ (g.power - k)) (2 ^ k))))

  grid_above : 2 ^ 52 ≤ q → q * 2 ^ k < n → (q + 1) * 2 ^ k ≤ n
  grid_above Q h =
      elim (dec_le k g.power) [
        | yes a ↦
            let m = multiple a in
            let l : q < g.digits * 2 ^ (g.power - k) = lt_of_mul-lt-mul_right (2 ^ k) (lt_of_lt_of_le h (le_of_eq m)) in
            le_trans (mul-le-mul_right (2 ^ k) (le_trans (le_of_eq (omega arith)) l)) (le_of_eq (sym m))
        | no a ↦ absurd (lt_irrefl n (lt_of_lt_of_le (lower (lt_of_not-le a)) (le_trans (mul-le-mul_right (2 ^ k) Q) (le_of_lt h))))
      ]

  grid_below : 2 ^ 52 < q → n < q * 2 ^ k → n + 2 ^ k ≤ q * 2 ^ k
  grid_below Q h =
      elim (dec_le k g.power) [
        | yes a ↦
            let m = multiple a in
            one_more n (g.digits * 2 ^ (g.power - k)) m (lt_of_mul-lt-mul_right (2 ^ k) (lt_of_le_of_lt (le_of_eq (sym m)) h))
        | no a ↦ le_trans (up (le_of_lt (lower (lt_of_not-le a)))) (one_more (2 ^ 52 * 2 ^ k) (2 ^ 52) refl Q)
      ]
    where
      one_more : (n m : ℕ) → n ≡ m * 2 ^ k → m < q → n + 2 ^ k ≤ q * 2 ^ k
      one_more n m e l = omega (arith, mul-le-mul_right (2 ^ k) l)

      up : {x y : ℕ} → x ≤ y → x + 2 ^ k ≤ y + 2 ^ k
      up h = omega arith

-- ---- the root of n · K^2 against the middle of q · K and another double

module _ (n q K k : ℕ) (near : NearRoot n q) (some : 0 < K) where
  past : (q + 1) * K ≤ k → 4 * (n * (K * K)) < (q * K + k) * (q * K + k)
  past h = lt_of_lt_of_le (omega (arith, mul-le-mul_right (K * K) near.over, mul-pos some some)) (mul-le-mul (twice h) (twice h))
    where
      twice : (q + 1) * K ≤ k → q * K + (q + 1) * K ≤ q * K + k
      twice h = omega arith

  before : k + K ≤ q * K → (q * K + k) * (q * K + k) < 4 * (n * (K * K))
  before h = go (q * K * 2 - K) (omega arith) (omega arith)
    where
      go : (x : ℕ) → x + K ≡ q * K * 2 → q * K + k ≤ x → (q * K + k) * (q * K + k) < 4 * (n * (K * K))
      go x e l =
          lt_of_le_of_lt (mul-le-mul l l)
          (omega (arith, ap (λ (z : ℕ). z * z) e, ap (λ (z : ℕ). z * K) e, mul-le-mul_right (K * K) near.under, mul-pos some some))

  -- where the root is not below q, whatever lies below
  below : q * q ≤ n → k < q * K → (q * K + k) * (q * K + k) < 4 * (n * (K * K))
  below whole h = go (q * K + k) (omega arith)
    where
      go : (s : ℕ) → s + 1 ≤ q * K * 2 → s * s < 4 * (n * (K * K))
      go s l = omega (arith, mul-le-mul l l, mul-le-mul_right (K * K) whole)

-- No other double k is as near to the root of d · 2^52 · K^2 units as q · K is.
module _ (d q h k : ℕ) (lo : 2 ^ 52 ≤ d) (hi : d + 1 < 2 ^ 54) (near : NearRoot (d * 2 ^ 52) q) (G : OnGrid k) where
  nearer : Nearer (d * 2 ^ 52 * (2 ^ h * 2 ^ h)) (q * 2 ^ h) k
  nearer = (
    λ l. past (d * 2 ^ 52) q (2 ^ h) k near (pow_pos h) (grid_above q h k G (digits_least d q lo hi near) l),
    λ l. elim (dec_le (q * q) (d * 2 ^ 52)) [
      | yes a ↦ below (d * 2 ^ 52) q (2 ^ h) k near (pow_pos h) a l
      | no a ↦ before (d * 2 ^ 52) q (2 ^ h) k near (pow_pos h) (grid_below q h k G (longer (lt_of_not-le a)) l)
    ],
  )
    where
      -- the least of its digits is the root of no smaller number
      longer : d * 2 ^ 52 < q * q → 2 ^ 52 < q
      longer l = lt_of_not-le (λ (g : q ≤ 2 ^ 52). lt_irrefl 0 (omega (arith, mul-le-mul g g)))

-- ---- the theorems

-- how the root of a number above zero is made: its rounded digits and their power
record Made (x : Float) : Type 0 where
  d : ℕ
  q : ℕ
  h : ℕ
  least : 2 ^ 52 ≤ d
  most : d + 1 < 2 ^ 54
  near : NearRoot (d * 2 ^ 52) q
  radicand : radicand_of x ≡ d * 2 ^ 52 * (2 ^ h * 2 ^ h)
  is : root_of x ≡ round binary64 false (whole_root (radicand_of x)) (2 ^ 1074)
  value : HasValue (root_of x) false (q * 2 ^ h) L

made : (x : Float) → T (fits binary64 x) → Positive x → Made x
made x f p =
    let b = to_bits binary64 x in
    let bounds = pattern_bounds x f p in
    let R = scaled b bounds.0 bounds.1 in
    let d = R.digits in
    let h = (R.power - 54) / 2 in
    let e : radicand_of x ≡ units_of_bits b * 2 ^ 1074 = ap (λ (n : ℕ). n * 2 ^ 1074) (pattern_units x f p) in
    let c : Scaling (radicand_of x) d R.power = subst (λ (n : ℕ). Scaling n d R.power) (sym e) R.scaling in
    let w = halved (radicand_of x) d R.power c in
    let s = whole_root (d * 2 ^ 52 * 4) in
    let near = half_of (d * 2 ^ 52) s (whole_root_is (d * 2 ^ 52 * 4)) (some d c.least s (whole_root_is (d * 2 ^ 52 * 4))) in
    record {
      d = d;
      q = (s + 1) / 2;
      h = suc h;
      least = c.least;
      most = c.most;
      near = near;
      radicand = w.value;
      is = root_is x p;
      value =
          subst (λ (y : Float). HasValue y false ((s + 1) / 2 * 2 ^ suc h) L) (sym (root_is x p))
          (root_value d ((s + 1) / 2) c.least c.most near h (whole_root (radicand_of x)) w.far (whole_root_of (radicand_of x) d R.power c) w.close);
    }
  where
    some : (d : ℕ) → 2 ^ 52 ≤ d → (s : ℕ) → IsRoot (d * 2 ^ 52 * 4) s → 0 < s
    some d l s r = root_le 1 s (lt_of_le_of_lt (omega arith) r.over)

-- The root of a number above zero: no other double is as near to the exact root.
pub root_nearest : (x : Float) → T (fits binary64 x) → Positive x → NearestRoot x (root_of x)
root_nearest x f p =
    let m = made x f p in
    let I = whole_root (radicand_of x) in
    let held = subst (λ (y : Float). T (fits binary64 y)) (sym m.is) (round-fits binary64 false I (2 ^ 1074)) in
    record {
      held = held;
      number = valued (root_of x) (m.q * 2 ^ m.h) m.value;
      plus = ap size_of m.is ∙ (round_size false I (2 ^ 1074) ∙ sym m.is);
      nearest = λ y g n.
          subst (λ (w : ℕ). Nearer w (units_of (root_of x)) (units_of y)) (sym m.radicand)
          (subst (λ (r : ℕ). Nearer (m.d * 2 ^ 52 * (2 ^ m.h * 2 ^ m.h)) r (units_of y)) (sym (units_of_lem (root_of x) (m.q * 2 ^ m.h) (equals_of (root_of x) false (m.q * 2 ^ m.h) L m.value)))
          (nearer m.d m.q m.h (units_of y) m.least m.most m.near (on_grid y g n)));
    }
  where
    valued : (y : Float) (a : ℕ) → HasValue y false a L → finite y ≡ true
    valued nan a v = absurd v
    valued (inf s) a v = absurd v
    valued (fin s m e) a v = refl

-- A double from 0 up is told by its units.
same_units : (r s : Float) → T (fits binary64 r) → T (fits binary64 s) → finite r ≡ true → finite s ≡ true → size_of r ≡ r → size_of s ≡ s → units_of r ≡ units_of s → r ≡ s
same_units nan s f g a b p q e = absurd (false≢true a)
same_units (inf t) s f g a b p q e = absurd (false≢true a)
same_units (fin true m d) s f g a b p q e = signed m d p
same_units (fin false m d) nan f g a b p q e = absurd (false≢true b)
same_units (fin false m d) (inf t) f g a b p q e = absurd (false≢true b)
same_units (fin false m d) (fin true n k) f g a b p q e = signed n k q
same_units (fin false m d) (fin false n k) f g a b p q e =
    same_bits (fin false m d) (fin false n k) f g (unfold to_bits in ap (λ (u : ℕ). 0 + (size u - 53) * 2 ^ 52 + u / 2 ^ (size u - 53)) e)

-- Two doubles that are nearest to one root are one.
pub one_nearest : (x r s : Float) → NearestRoot x r → NearestRoot x s → r ≡ s
one_nearest x r s a b =
    same_units r s a.held b.held a.number b.number a.plus b.plus
    (elim (ℕ_discrete (units_of r) (units_of s)) [
      | yes e ↦ e
      | no e ↦ elim (dec_le (units_of r) (units_of s)) [
        | yes l ↦ let h : units_of r < units_of s = omega arith in absurd (apart (radicand_of x) (units_of r) (units_of s) ((a.nearest s b.held b.number).0 h) ((b.nearest r a.held a.number).1 h))
        | no l ↦ let h : units_of s < units_of r = omega arith in absurd (apart (radicand_of x) (units_of s) (units_of r) ((b.nearest r a.held a.number).0 h) ((a.nearest s b.held b.number).1 h))
      ]
    ])
  where
    apart : (w r s : ℕ) → 4 * w < (r + s) * (r + s) → (s + r) * (s + r) < 4 * w → ⊥
    apart w r s l g = lt_irrefl 0 (omega arith)
