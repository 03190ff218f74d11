-- The number whose root is asked, as one of 53 or 54 digits and an even power of two. Assumes nothing.
use mathlib.Core.Path.{◌≡◌, refl, sym, ap, ◌∙◌, subst}
use mathlib.Core.Bool.{Bool, true, false, not}
use Prim.Native.Nat.{ℕ, zero, suc, ◌+◌, ◌-◌, ◌*◌, ◌/◌, ◌%◌, ◌^◌, ◌≤◌, ◌<◌}
use native.Mathlib.Nat.{le_trans, le_of_eq, lt_of_lt_of_le, mul_assoc, mul-le-mul_right, mul-lt-mul_of_pos_right, mod-eq_of_lt, lt_irrefl, lt_of_not-le}
use native.Mathlib.Omega.{arith}
use lib.Dec.{T, ltb, lt→ltb, ltb→lt, nltb→le, lit≤}
use lib.Pow.{pow-add, pow_pos, pow_mono}
use lib.Arith.{le→nltb}
use lib.Count.{count_leading_zeros, leading_top}
use lib.Ieee.Bits.{is_true, is_false}
use Rattle.reply.specs.Choice.{pick}
use Rattle.root.specs.AsWorked.{Scaling, units_of_bits}

-- a power moved into the number
moved : (m a b : ℕ) → m * 2 ^ a * 2 ^ b ≡ m * 2 ^ (a + b)
moved m a b = mul_assoc m (2 ^ a) (2 ^ b) ∙ ap (λ (x : ℕ). m * x) (sym (pow-add 2 a b))

pub one_out : (m p : ℕ) → 0 < p → m * 2 * 2 ^ (p - 1) ≡ m * 2 ^ p
one_out m p h = moved m 1 (p - 1) ∙ ap (λ (x : ℕ). m * 2 ^ x) (back p h)
  where
    back : (p : ℕ) → 0 < p → 1 + (p - 1) ≡ p
    back p h = omega arith

-- a small b, shifted until it has 53 digits
pub record Shifted (b z : ℕ) : Type 0 where
  pub least : 2 ^ 52 ≤ b * 2 ^ z
  pub most : b * 2 ^ z < 2 ^ 53
  pub some : 1 ≤ z
  pub few : z ≤ 52

few_digits : (b j : ℕ) → 2 ^ j ≤ b → b < 2 ^ 52 → j < 52
few_digits b j l h = lt_of_not-le (λ (g : 52 ≤ j). lt_irrefl b (lt_of_lt_of_le h (le_trans (pow_mono g) l)))

pub shifted : (b : ℕ) → 0 < b → b < 2 ^ 52 → Shifted b (count_leading_zeros 64 b - 11) × (11 ≤ count_leading_zeros 64 b)
shifted b p h =
    let t = leading_top 64 b p (lt_of_lt_of_le h (lit≤ tt)) in
    let j = t.0 in
    let J = few_digits b j t.2 h in
    let lz = count_leading_zeros 64 b in
    let e : lz + suc j ≡ 64 = t.1 in
    let z = lz - 11 in
    let s : j + z ≡ 52 = omega arith in
    let s' : suc j + z ≡ 53 = omega arith in (
      record {
        least = le_trans (le_of_eq (ap (λ (k : ℕ). 2 ^ k) (sym s) ∙ pow-add 2 j z)) (mul-le-mul_right (2 ^ z) t.2);
        most = lt_of_lt_of_le (mul-lt-mul_of_pos_right t.3 (pow_pos z)) (le_of_eq (sym (pow-add 2 (suc j) z) ∙ ap (λ (k : ℕ). 2 ^ k) s'));
        some = omega arith;
        few = omega arith;
      },
      omega arith,
    )

pub shl_is : (b z : ℕ) → Shifted b z → b * 2 ^ z % 2 ^ 64 ≡ b * 2 ^ z
shl_is b z s = mod-eq_of_lt (lt_of_lt_of_le s.most (lit≤ tt))

-- the two kinds of a pattern
pub low_units : (b z : ℕ) → b < 2 ^ 52 → z ≤ 52 → b * 2 ^ z * 2 ^ (1074 - z) ≡ units_of_bits b * 2 ^ 1074
low_units b z h l =
    moved b z (1074 - z)
    ∙ ap (λ (x : ℕ). b * 2 ^ x) (whole z l)
    ∙ ap (λ (t : Bool). pick t b ((b % 2 ^ 52 + 2 ^ 52) * 2 ^ (b / 2 ^ 52 - 1)) * 2 ^ 1074) (sym (is_true (ltb b (2 ^ 52)) (lt→ltb b (2 ^ 52) h)))
  where
    whole : (z : ℕ) → z ≤ 52 → z + (1074 - z) ≡ 1074
    whole z l = omega arith

pub high_units : (b : ℕ) → 2 ^ 52 ≤ b → (b % 2 ^ 52 + 2 ^ 52) * 2 ^ (b / 2 ^ 52 + 1073) ≡ units_of_bits b * 2 ^ 1074
high_units b h =
    ap (λ (x : ℕ). (b % 2 ^ 52 + 2 ^ 52) * 2 ^ x) (fewer b h)
    ∙ sym (moved (b % 2 ^ 52 + 2 ^ 52) (b / 2 ^ 52 - 1) 1074)
    ∙ ap (λ (t : Bool). pick t b ((b % 2 ^ 52 + 2 ^ 52) * 2 ^ (b / 2 ^ 52 - 1)) * 2 ^ 1074) (sym (is_false (ltb b (2 ^ 52)) (le→nltb b (2 ^ 52) h)))
  where
    fewer : (b : ℕ) → 2 ^ 52 ≤ b → b / 2 ^ 52 + 1073 ≡ b / 2 ^ 52 - 1 + 1074
    fewer b h = omega arith

-- ---- each pattern above zero has such a radicand

pub record Radicand (n : ℕ) : Type 0 where
  pub digits : ℕ
  pub power : ℕ
  pub scaling : Scaling n digits power

even_radicand : (m p : ℕ) → 2 ^ 52 ≤ m → m < 2 ^ 53 → 1021 ≤ p → p ≤ 3120 → Radicand (m * 2 ^ p)
even_radicand m p a b l h = go (p % 2) refl
  where
    go : (r : ℕ) → p % 2 ≡ r → Radicand (m * 2 ^ p)
    go zero e = record { digits = m; power = p; scaling = record { value = refl; least = a; most = omega arith; even = e; low = omega arith; high = h } }
    go (suc r) e = record {
      digits = m * 2;
      power = p - 1;
      scaling = record { value = one_out m p (omega arith); least = omega arith; most = omega arith; even = omega arith; low = omega arith; high = omega arith };
    }

pub radicand : (b : ℕ) → 0 < b → b < 2047 * 2 ^ 52 → Radicand (units_of_bits b * 2 ^ 1074)
radicand b B h = go (ltb b (2 ^ 52)) (ltb→lt b (2 ^ 52)) (nltb→le b (2 ^ 52))
  where
    go : (t : Bool) → (T t → b < 2 ^ 52) → (T (not t) → 2 ^ 52 ≤ b) → Radicand (units_of_bits b * 2 ^ 1074)
    go true f g =
        let z = count_leading_zeros 64 b - 11 in
        let s = (shifted b B (f tt)).0 in
        subst Radicand (low_units b z (f tt) s.few) (even_radicand (b * 2 ^ z) (1074 - z) s.least s.most (least z s.few) (most z))
      where
        least : (z : ℕ) → z ≤ 52 → 1021 ≤ 1074 - z
        least z h = omega arith

        most : (z : ℕ) → 1074 - z ≤ 3120
        most z = omega arith
    go false f g = subst Radicand (high_units b (g tt)) (even_radicand (b % 2 ^ 52 + 2 ^ 52) (b / 2 ^ 52 + 1073) (omega arith) (omega arith) (omega (arith, g tt)) (omega arith))

pub units_under : (b : ℕ) → b < 2047 * 2 ^ 52 → units_of_bits b < 2 ^ 2098
units_under b h = go (ltb b (2 ^ 52)) (ltb→lt b (2 ^ 52))
  where
    go : (t : Bool) → (T t → b < 2 ^ 52) → pick t b ((b % 2 ^ 52 + 2 ^ 52) * 2 ^ (b / 2 ^ 52 - 1)) < 2 ^ 2098
    go true f = lt_of_lt_of_le (f tt) (lit≤ tt)
    go false f =
        lt_of_lt_of_le (mul-lt-mul_of_pos_right (digits b) (pow_pos (b / 2 ^ 52 - 1)))
        (le_trans (le_of_eq (sym (pow-add 2 53 (b / 2 ^ 52 - 1)))) (pow_mono (power b h)))
      where
        digits : (b : ℕ) → b % 2 ^ 52 + 2 ^ 52 < 2 ^ 53
        digits b = omega arith

        power : (b : ℕ) → b < 2047 * 2 ^ 52 → 53 + (b / 2 ^ 52 - 1) ≤ 2098
        power b h = omega arith
