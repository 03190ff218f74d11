-- The root of a radicand in units, rounded to a double, has the digits q of the rounded root of 53 or 54 of its own. Assumes nothing.
use mathlib.Core.Path.{◌≡◌, refl, sym, ap, ◌∙◌, subst}
use mathlib.Core.Bool.{true, false, true≢false}
use Prim.Native.Nat.{ℕ, zero, suc, ◌+◌, ◌-◌, ◌*◌, ◌/◌, ◌%◌, ◌^◌, ◌≤◌, ◌<◌, suc-le-suc, compare, Ordering}
use native.Mathlib.Decide.{dec_le}
use native.Mathlib.Nat.{le_trans, le_of_eq, le_antisymm, lt_of_lt_of_le, lt_of_le_of_lt, lt_of_not-le, lt_irrefl, le_of_lt, zero-add, mul-le-mul, mul-le-mul_right, mul-lt-mul_of_pos_right, mul_assoc, mul-pos, mul-div_cancel, pow-suc}
use native.Mathlib.Omega.{arith}
use lib.Arith.{digits_div, digits_mod}
use lib.Dec.{T}
use lib.Pow.{pow-add, pow_pos, pow_mono}
use lib.Ieee.{Float, nan, inf, fin, binary64, up, down, size, nearest, round, fits, to_bits, of_bits}
use lib.Ieee.Digits.{size-lt, size-le}
use lib.Ieee.Fits.{down_pos, round-fits}
use lib.Ieee.Exact.{HasValue}
use lib.Ieee.Nearest.{closest, closest_same}
use lib.Ieee.Scale.{grid, round_val}
use lib.Ieee.Bits.{of_bits-to_bits}
use Rattle.double.proofs.Near.{Cmp, cmp}
use Rattle.root.specs.Root.{IsRoot, whole_root}
use Rattle.root.specs.AsWorked.{NearRoot, Scaling}
use Rattle.root.proofs.Squares.{root_le, whole_root_is}

-- ---- q is the rounded root of n, and I the root of n · (2 H)^2, cut: I lies within H of q · 2 H

module _ (n q H I : ℕ) (near : NearRoot n q) (R : IsRoot (n * (H * 2 * (H * 2))) I) where
  pub not_over : 0 < H → I < q * H * 2 + H
  not_over some = lt_of_not-le (λ (g : q * H * 2 + H ≤ I). lt_irrefl 0 (omega (arith, mul-le-mul g g, R.under, mul-le-mul_right (H * H) near.over, mul-pos some some)))

  pub not_under : 4 * q + 1 ≤ 3 * H → q * H * 2 < I + H
  not_under far = lt_of_not-le (λ (g : I + H ≤ q * H * 2). go (q * H * 2 - H) (omega arith) (omega arith))
    where
      go : (x : ℕ) → x + H ≡ q * H * 2 → I + 1 ≤ x + 1 → ⊥
      go x e l =
          lt_irrefl 0
          (omega (arith, ap (λ (z : ℕ). z * z) e, ap (λ (z : ℕ). z * H) e, mul-le-mul l l, R.over, mul-le-mul_right (H * H) near.under, mul-le-mul_right H far))

-- ---- to the nearest multiple of 2 H

nearest_down : (w a b : ℕ) → a < b → nearest w (compare a b) ≡ w
nearest_down w a b h = go (compare a b) (cmp a b)
  where
    go : (o : Ordering) → Cmp o a b → nearest w o ≡ w
    go Ordering.lt c = refl
    go Ordering.eq c = absurd (lt_irrefl b (subst (λ (x : ℕ). x < b) c h))
    go Ordering.gt c = absurd (lt_irrefl a (lt_of_lt_of_le h (le_of_lt c)))

nearest_up : (w a b : ℕ) → b < a → nearest w (compare a b) ≡ suc w
nearest_up w a b h = go (compare a b) (cmp a b)
  where
    go : (o : Ordering) → Cmp o a b → nearest w o ≡ suc w
    go Ordering.lt c = absurd (lt_irrefl b (lt_of_lt_of_le h (le_of_lt c)))
    go Ordering.eq c = absurd (lt_irrefl a (subst (λ (x : ℕ). x < a) (sym c) h))
    go Ordering.gt c = refl

module _ (u I q r : ℕ) (is : I ≡ q * u + r) (small : r < u) where
  quotient : I / u ≡ q
  quotient = ap (λ (k : ℕ). k / u) is ∙ digits_div q small

  remainder : I % u ≡ r
  remainder = ap (λ (k : ℕ). k % u) is ∙ digits_mod q small

kept : (q H I : ℕ) → q * H * 2 < I + H → I < q * H * 2 + H → closest I (H * 2) ≡ q
kept q H I lo hi =
    elim (dec_le (q * H * 2) I) [
      | yes a ↦
          let r = I - q * H * 2 in
          let e : I ≡ q * (H * 2) + r = omega arith in
          let s : r < H * 2 = omega arith in
          nearest_down (I / (H * 2)) (I % (H * 2) * 2) (H * 2) (omega (arith, remainder (H * 2) I q r e s)) ∙ quotient (H * 2) I q r e s
      | no a ↦ above q lo (lt_of_not-le a)
    ]
  where
    above : (q : ℕ) → q * H * 2 < I + H → I < q * H * 2 → closest I (H * 2) ≡ q
    above zero l g = absurd (lt_irrefl 0 (omega arith))
    above (suc p) l g =
        let r = I - p * H * 2 in
        let m : suc p * H ≡ p * H + H = omega arith in
        let e : I ≡ p * (H * 2) + r = omega arith in
        let s : r < H * 2 = omega arith in
        nearest_up (I / (H * 2)) (I % (H * 2) * 2) (H * 2) (omega (arith, remainder (H * 2) I p r e s)) ∙ ap suc (quotient (H * 2) I p r e s)

-- ---- a number's digits

size_is : (n j z : ℕ) → z ≡ suc j → 2 ^ j ≤ n → n < 2 ^ z → size n ≡ z
size_is n j z e lo hi =
    le_antisymm (size-le n z hi)
    (le_trans (le_of_eq e) (lt_of_not-le (λ (g : size n ≤ j). lt_irrefl n (lt_of_lt_of_le (size-lt n) (le_trans (pow_mono g) lo)))))

-- 53 digits, and k more
dropped : (k n : ℕ) → 2 ^ 52 * 2 ^ k ≤ n → n < 2 ^ 53 * 2 ^ k → size n - 53 ≡ k
dropped k n lo hi =
    let z = size_is n (52 + k) (53 + k) (omega arith) (le_trans (le_of_eq (pow-add 2 52 k)) lo) (lt_of_lt_of_le hi (le_of_eq (sym (pow-add 2 53 k)))) in
    less (size n) z
  where
    less : (s : ℕ) → s ≡ 53 + k → s - 53 ≡ k
    less s e = omega arith

-- the bit pattern of q · 2^k units
bits_of_value : (y : Float) (q k : ℕ) → T (fits binary64 y) → HasValue y false (q * 2 ^ k) (2 ^ 1074) → 2 ^ 52 ≤ q → q < 2 ^ 53 → to_bits binary64 y ≡ k * 2 ^ 52 + q
unfolding to_bits
bits_of_value nan q k f v lo hi = absurd v
bits_of_value (inf s) q k f v lo hi = absurd v
bits_of_value (fin true m e) q k f v lo hi = absurd (true≢false v.0)
bits_of_value (fin false m e) q k f v lo hi =
    let n : m * up e * 2 ^ 1074 / down e ≡ q * 2 ^ k = ap (λ (x : ℕ). x / down e) v.1 ∙ mul-div_cancel (q * 2 ^ k) (down_pos e) in
    let z = dropped k (q * 2 ^ k) (mul-le-mul_right (2 ^ k) lo) (mul-lt-mul_of_pos_right hi (pow_pos k)) in
    ap (λ (x : ℕ). 0 + (size x - 53) * 2 ^ 52 + x / 2 ^ (size x - 53)) n
    ∙ ap (λ (x : ℕ). 0 + x * 2 ^ 52 + q * 2 ^ k / 2 ^ x) z
    ∙ ap (λ (x : ℕ). 0 + k * 2 ^ 52 + x) (mul-div_cancel q (pow_pos k))
    ∙ ap (λ (x : ℕ). x + q) (zero-add (k * 2 ^ 52))

-- ---- the root as a double

-- a number of units with 53 digits and k more, rounded to 53
units_out : (I k : ℕ) → size I - 53 ≡ k → grid binary64 I (2 ^ 1074) ≡ closest I (2 ^ k) * 2 ^ k
units_out I k e =
    ap (λ (x : ℕ). closest (I * 2 ^ 1074) (2 ^ 1074 * 2 ^ x) * 2 ^ x) (ap (λ (x : ℕ). size x - 53) (mul-div_cancel I (pow_pos 1074)) ∙ e)
    ∙ ap (λ (x : ℕ). x * 2 ^ k) (closest_same (I * 2 ^ 1074) (2 ^ 1074 * 2 ^ k) I (2 ^ k) (mul-pos (pow_pos 1074) (pow_pos k)) (pow_pos k) (mul_assoc I (2 ^ 1074) (2 ^ k)))

past : (q d s : ℕ) → 2 ^ 53 ≤ q → 2 ^ 53 * q ≤ s → s < d * 2 ^ 52 + q → 2 ^ 54 ≤ d + 1
past q d s g h k = omega arith

-- the rounded root of a d of 53 or 54 digits has 53
module _ (d q : ℕ) (lo : 2 ^ 52 ≤ d) (hi : d + 1 < 2 ^ 54) (near : NearRoot (d * 2 ^ 52) q) where
  pub digits_least : 2 ^ 52 ≤ q
  digits_least = lt_of_not-le (λ (g : q ≤ 2 ^ 52 - 1). lt_irrefl 0 (omega (arith, mul-le-mul g g, near.over)))

  pub digits_most : q < 2 ^ 53
  digits_most = lt_of_not-le (λ (g : 2 ^ 53 ≤ q). lt_irrefl (2 ^ 54) (lt_of_le_of_lt (past q d (q * q) g (mul-le-mul_right q g) near.under) hi))

  -- in units the radicand is d · 2^52 · (2^k)^2
  module _ (h I : ℕ) (far : 55 ≤ h) (R : IsRoot (d * 2 ^ 52 * (2 ^ h * 2 * (2 ^ h * 2))) I) where
    abbrev H : ℕ
    H = 2 ^ h

    twice : H * 2 ≡ 2 ^ suc h
    twice = sym (pow-suc 2 h)

    room : 4 * q + 1 ≤ 3 * H
    room = le_trans (wide q digits_most) (le_trans (pow_mono far) (once H))
      where
        wide : (q : ℕ) → q < 2 ^ 53 → 4 * q + 1 ≤ 2 ^ 55
        wide q h = omega arith

        once : (x : ℕ) → x ≤ 3 * x
        once x = omega arith

    pub root_grid : grid binary64 I (2 ^ 1074) ≡ q * 2 ^ suc h
    root_grid =
        let a = not_under (d * 2 ^ 52) q H I near R room in
        let b = not_over (d * 2 ^ 52) q H I near R (pow_pos h) in
        let c : closest I (2 ^ suc h) ≡ q = ap (closest I) (sym twice) ∙ kept q H I a b in
        units_out I (suc h) (dropped (suc h) I (root_least H (2 ^ suc h) twice R) (root_most H (2 ^ suc h) twice b)) ∙ ap (λ (x : ℕ). x * 2 ^ suc h) c
      where
        root_least : (H K : ℕ) → H * 2 ≡ K → IsRoot (d * 2 ^ 52 * (H * 2 * (H * 2))) I → 2 ^ 52 * K ≤ I
        root_least H K e r = root_le (2 ^ 52 * K) I (lt_of_le_of_lt (omega (arith, ap (λ (z : ℕ). z * z) e, mul-le-mul_right (H * H) lo)) r.over)

        root_most : (H K : ℕ) → H * 2 ≡ K → I < q * H * 2 + H → I < 2 ^ 53 * K
        root_most H K e l = omega (arith, mul-le-mul_right H digits_most)

    pub root_value : h < 2044 → HasValue (round binary64 false I (2 ^ 1074)) false (q * 2 ^ suc h) (2 ^ 1074)
    root_value close =
        subst (λ (x : ℕ). HasValue (round binary64 false I (2 ^ 1074)) false x (2 ^ 1074)) root_grid
        (round_val binary64 I (2 ^ 1074) (subst (λ (x : ℕ). x < 2 ^ 2098) (sym root_grid) (under_overflow (suc h) (suc-le-suc close))))
      where
        fewer : (k : ℕ) → k < 2045 → 53 + k ≤ 2098
        fewer k l = omega arith

        under_overflow : (k : ℕ) → k < 2045 → q * 2 ^ k < 2 ^ 2098
        under_overflow k l = lt_of_lt_of_le (mul-lt-mul_of_pos_right digits_most (pow_pos k)) (le_trans (le_of_eq (sym (pow-add 2 53 k))) (pow_mono (fewer k l)))

    rounded_root : h < 2044 → of_bits binary64 (suc h * 2 ^ 52 + q) ≡ round binary64 false I (2 ^ 1074)
    rounded_root close =
        let y = round binary64 false I (2 ^ 1074) in
        let f = round-fits binary64 false I (2 ^ 1074) in
        ap (of_bits binary64) (sym (bits_of_value y q (suc h) f (root_value close) digits_least digits_most)) ∙ of_bits-to_bits binary64 y f

-- ---- the even power as 52 and twice more than h

pub record Halved (n d p h : ℕ) : Type 0 where
  pub value : n ≡ d * 2 ^ 52 * (2 ^ suc h * 2 ^ suc h)
  pub field : (p - 52) / 2 ≡ suc h
  pub far : 55 ≤ h
  pub close : h < 2044

pub halved : (n d p : ℕ) → Scaling n d p → Halved n d p ((p - 54) / 2)
halved n d p c =
    let h = (p - 54) / 2 in
    let w = shares p c.even c.low c.high in
    record {
      value =
          sym c.value ∙ ap (λ (k : ℕ). d * 2 ^ k) w.0 ∙ ap (λ (k : ℕ). d * k) (pow-add 2 52 (suc h + suc h) ∙ ap (λ (k : ℕ). 2 ^ 52 * k) (pow-add 2 (suc h) (suc h)))
          ∙ sym (mul_assoc d (2 ^ 52) (2 ^ suc h * 2 ^ suc h));
      field = w.1;
      far = w.2;
      close = w.3;
    }
  where
    shares : (p : ℕ) → p % 2 ≡ 0 → 1020 ≤ p → p ≤ 3120
        → (p ≡ 52 + (suc ((p - 54) / 2) + suc ((p - 54) / 2))) × ((p - 52) / 2 ≡ suc ((p - 54) / 2)) × (55 ≤ (p - 54) / 2) × ((p - 54) / 2 < 2044)
    shares p e l m = (omega arith, omega arith, omega arith, omega arith)

pub whole_root_of : (n d p : ℕ) → Scaling n d p → IsRoot (d * 2 ^ 52 * (2 ^ ((p - 54) / 2) * 2 * (2 ^ ((p - 54) / 2) * 2))) (whole_root n)
whole_root_of n d p c =
    let e = (halved n d p c).value ∙ ap (λ (k : ℕ). d * 2 ^ 52 * (k * k)) (pow-suc 2 ((p - 54) / 2)) in
    subst (λ (k : ℕ). IsRoot k (whole_root n)) e (whole_root_is n)

-- The pattern that the code makes of the digits q and of the power is that of the rounded root.
pub bits_root : (n d p q : ℕ) → Scaling n d p → NearRoot (d * 2 ^ 52) q → of_bits binary64 ((p - 52) / 2 * 2 ^ 52 + q) ≡ round binary64 false (whole_root n) (2 ^ 1074)
bits_root n d p q c near =
    let w = halved n d p c in
    ap (λ (k : ℕ). of_bits binary64 (k * 2 ^ 52 + q)) w.field
    ∙ rounded_root d q c.least c.most near ((p - 54) / 2) (whole_root n) w.far (whole_root_of n d p c) w.close
