-- The leftover of a number from 0 up is exact: the remainder of its fraction. So it is at least 0 and below 1, and no minus zero. Assumes nothing.
use mathlib.Core.Path.{◌≡◌, refl, sym, ap, ◌∙◌, subst}
use mathlib.Core.Bool.{Bool, true, false, ◌&&◌, cond, true≢false, false≢true}
use Prim.Native.Nat.{ℕ, zero, suc, ◌+◌, ◌-◌, ◌*◌, ◌/◌, ◌%◌, ◌^◌, ◌≤◌, ◌<◌, min}
use native.Mathlib.Nat.{le_trans, le_of_eq, eq_of_mul-eq-mul_right, lt_of_le_of_lt, lt_of_lt_of_le, lt_irrefl, lt_of_not-le, le_of_suc-le-suc, mul-one, one-mul, mul_comm, mul_assoc, mul-le-mul_right, mul-lt-mul_of_pos_right, lt_of_mul-lt-mul_right, le_of_mul-le-mul_right, mul-pos, mod-le, mod-lt, mod-one, div-add-mod'}
use native.Mathlib.Omega.{arith}
use lib.Arith.{le→nltb}
use lib.IntN.{ℤ, pos, negsuc}
use lib.Dec.{T, ltb, leb, eqb, ltb→lt, lt→ltb, leb→le, eqb→eq, lit<, lit≤}
use lib.Pow.{pow-add, pow_pos, pow_mono, pow-lt, shl_lt}
use lib.Ieee.{Float, nan, inf, fin, binary64, up, down, fits, round, sum, add, sub, neg, of_int, to_unsigned, lt, le, of_bits}
use lib.Ieee.Bits.{cond_no, is_true}
use lib.Ieee.Digits.{back}
use lib.Ieee.Fits.{and_l, and_r, up_pos, down_pos}
use lib.Ieee.Exact.{HasValue, round_exact}
use lib.Ieee.Order.{le_of_values}
use lib.Ieee.Positive.{num, den, den_pos}
use lib.Ieee.Scale.{round_same}
use lib.Ieee.Back.{round_whole}
use Rattle.double.specs.Double.{size_of, left_of, whole_of, nought, one}
use Rattle.double.specs.Sizes.{Upto}
use Rattle.double.proofs.Nonnegative.{signed, whole_le}

-- ---- what the format says of a value's digits and its denominator

pub pow_le_back : (i p : ℕ) → 2 ^ i ≤ 2 ^ p → i ≤ p
pow_le_back i p h = le_of_suc-le-suc (lt_of_not-le (λ (g : suc p ≤ i). lt_irrefl (2 ^ p) (lt_of_lt_of_le (pow-lt g) h)))

one_of_two : (u d : ℕ) → 0 < u → u * d ≡ 1 → d ≤ 2 ^ 1074
one_of_two u d h e =
    let a : 1 * d ≤ u * d = mul-le-mul_right d h in
    let b : d ≤ 1 = omega arith in
    le_trans b (lit≤ tt)

pub fits_digits : (s : Bool) (m : ℕ) (e : ℤ) → T (fits binary64 (fin s m e)) → (m < 2 ^ 53) × (down e ≤ 2 ^ 1074)
unfolding fits
fits_digits s zero e h = (lit< tt, one_of_two (up e) (down e) (up_pos e) (eqb→eq (up e * down e) 1 h))
fits_digits s (suc m) e h =
    let a : Bool = eqb (suc m % 2) 1 in
    let b : Bool = ltb (suc m) (2 ^ 53) in
    let c : Bool = leb (down e) (2 ^ 1074) in
    let d : Bool = ltb (suc m * up e) (2 ^ 1024 * down e) in
    (ltb→lt (suc m) (2 ^ 53) (and_r a b (and_l (a && b) c (and_l (a && b && c) d h))), leb→le (down e) (2 ^ 1074) (and_r (a && b) c (and_l (a && b && c) d h)))

-- ---- a fraction's rest is a double

rest_exact : (m : ℕ) (e : ℤ) → m < 2 ^ 53 → down e ≤ 2 ^ 1074 → HasValue (round binary64 false (m * up e % down e) (down e)) false (m * up e % down e) (down e)
rest_exact m (pos k) a b =
    let z = mod-one (m * 2 ^ k) in
    round_exact binary64 false (m * 2 ^ k % 1) 1 0 0 (lit< tt) (lit< tt) (lit< tt) (ap (λ (n : ℕ). n * 2 ^ 1074) z)
rest_exact m (negsuc k) a b =
    let r = m * 1 % 2 ^ suc k in
    let small : r < 2 ^ 53 = lt_of_le_of_lt (mod-le (m * 1) (2 ^ suc k)) (subst (λ (n : ℕ). n < 2 ^ 53) (sym (mul-one m)) a) in
    let fine : suc k ≤ 1074 = pow_le_back (suc k) 1074 b in
    let j = 1074 - suc k in
    let room : 53 + j ≤ 2098 = omega arith in
    let p : 2 ^ 1074 ≡ 2 ^ j * 2 ^ suc k = ap (λ (n : ℕ). 2 ^ n) (sym (back 1074 (suc k) fine)) ∙ pow-add 2 j (suc k) in
    round_exact binary64 false r (2 ^ suc k) r j (pow_pos (suc k)) small (lt_of_lt_of_le (shl_lt 53 j small) (pow_mono room))
    (ap (λ (n : ℕ). r * n) p ∙ sym (mul_assoc r (2 ^ j) (2 ^ suc k)))

-- ---- a difference that is not negative, as one fraction before it is rounded

-- The same value over a larger denominator.
pub over : (r : Float) (a c k : ℕ) → HasValue r false a c → HasValue r false (a * k) (c * k)
over nan a c k v = v
over (inf s) a c k v = v
over (fin s m e) a c k v = (v.0, omega (arith, ap (λ (z : ℕ). z * k) v.1))

-- two fractions of one value
pub same_fraction : (r : Float) (a c n k : ℕ) → HasValue r false a c → HasValue r false n k → n * c ≡ a * k
same_fraction nan a c n k v w = absurd v
same_fraction (inf s) a c n k v w = absurd v
same_fraction (fin s m e) a c n k v w =
    eq_of_mul-eq-mul_right (down e) (down_pos e) (n * c) (a * k) (omega (arith, ap (λ (z : ℕ). z * k) v.1, ap (λ (z : ℕ). z * c) w.1))

pub sub_is : (x y : Float) (a b k c : ℕ) → 0 < c → HasValue x false a c → HasValue y false b c → a ≡ b + k → sub binary64 x y ≡ round binary64 false k c
unfolding sub add neg sum
sub_is nan y a b k c C v w h = absurd v
sub_is (inf s) y a b k c C v w h = absurd v
sub_is (fin true m e) y a b k c C v w h = absurd (true≢false v.0)
sub_is (fin false m e) nan a b k c C v w h = absurd w
sub_is (fin false m e) (inf s) a b k c C v w h = absurd w
sub_is (fin false m e) (fin true n f) a b k c C v w h = absurd (true≢false w.0)
sub_is (fin false m e) (fin false n f) a b k c C v w h = go (m * up e) (n * up f) (down e) (down f) v.1 w.1 (down_pos e) (down_pos f)
  where
    go : (M N D F : ℕ) → M * c ≡ a * D → N * c ≡ b * F → 0 < D → 0 < F
        → cond (ltb (M * F) (N * D)) (round binary64 true (N * D - M * F) (D * F)) (round binary64 false (M * F - N * D) (D * F)) ≡ round binary64 false k c
    go M N D F p q P Q =
        let l : N * D ≤ M * F = le_of_mul-le-mul_right {k = c} (omega (arith, ap (λ (z : ℕ). z * F) p, ap (λ (z : ℕ). z * D) q, ap (λ (z : ℕ). z * D * F) h)) C in
        let z = M * F - N * D in
        let s : M * F ≡ N * D + z = omega arith in
        cond_no (ltb (M * F) (N * D)) _ _ (le→nltb (M * F) (N * D) l)
        ∙ round_same binary64 false z (D * F) k c (mul-pos P Q) C (omega (arith, ap (λ (z : ℕ). z * F) p, ap (λ (z : ℕ). z * D) q, ap (λ (z : ℕ). z * D * F) h, ap (λ (z : ℕ). z * c) s))

-- ---- the leftover

uncapped : (q : ℕ) → min q (2 ^ 64 - 1) ≤ 2 ^ 53 → min q (2 ^ 64 - 1) ≡ q
uncapped q h = omega arith

-- The whole part is the quotient of the number's fraction.
pub whole_value : (x : Float) → Upto (2 ^ 53) x → whole_of x ≡ num x / den x
unfolding to_unsigned
whole_value nan p = absurd (false≢true p.under.number)
whole_value (inf s) p = absurd (false≢true p.under.number)
whole_value (fin true m e) p = signed m e p.plus
whole_value (fin false m e) p = uncapped (m * up e / down e) (whole_le (2 ^ 53) (fin false m e) p)

-- The leftover's exact value is the remainder of the number's fraction, over the same denominator.
pub left_value : (x : Float) → T (fits binary64 x) → Upto (2 ^ 53) x → HasValue (left_of x) false (num x % den x) (den x)
unfolding of_int
left_value nan f p = absurd (false≢true p.under.number)
left_value (inf s) f p = absurd (false≢true p.under.number)
left_value (fin true m e) f p = signed m e p.plus
left_value (fin false m e) f p =
    let M = m * up e in
    let q = M / down e in
    let w = whole_value (fin false m e) p in
    let b = whole_le (2 ^ 53) (fin false m e) p in
    let g = fits_digits false m e f in
    let is : left_of (fin false m e) ≡ round binary64 false (M % down e) (down e) =
    ap (λ (k : ℕ). sub binary64 (fin false m e) (round binary64 false k 1)) w
    ∙ sub_is (fin false m e) (round binary64 false q 1) M (q * down e) (M % down e) (down e) (down_pos e) (refl, refl)
    (rw (one-mul (down e)) at (over (round binary64 false q 1) q 1 (down e) (round_whole binary64 false q (subst (λ (k : ℕ). k ≤ 2 ^ 53) w b))))
    (sym (div-add-mod' M (down e))) in
    subst (λ (z : Float). HasValue z false (M % down e) (down e)) (sym is) (rest_exact m e g.0 g.1)

-- ---- at least 0 and below 1

below_one : (r : Float) (a c : ℕ) → HasValue r false a c → a < c → T (lt r (fin false 1 (pos 0)))
unfolding lt
below_one nan a c v h = absurd v
below_one (inf t) a c v h = absurd v
below_one (fin true m e) a c v h = absurd (true≢false v.0)
below_one (fin false m e) a c v h =
    let l : m * up e * c < down e * c = lt_of_le_of_lt (le_of_eq v.1) (lt_of_lt_of_le (mul-lt-mul_of_pos_right h (down_pos e)) (le_of_eq (mul_comm c (down e)))) in
    let g : m * up e < down e = lt_of_mul-lt-mul_right c l in
    let t : m * up e * 1 < 1 * down e = omega arith in
    lt→ltb (m * up e * 1) (1 * down e) t

-- A value without a sign is its own size.
unsigned : (r : Float) (a c : ℕ) → HasValue r false a c → size_of r ≡ r
unsigned nan a c v = absurd v
unsigned (inf t) a c v = absurd v
unsigned (fin true m e) a c v = absurd (true≢false v.0)
unsigned (fin false m e) a c v = refl

-- A leftover is at least 0 and below 1, and its sign is plus: where it is zero, it is plus zero and never minus zero.
pub record InUnit (r : Float) : Type 0 where
  pub low : le nought r ≡ true
  pub high : lt r one ≡ true
  pub plus : size_of r ≡ r

pub left_range : (x : Float) → T (fits binary64 x) → Upto (2 ^ 53) x → InUnit (left_of x)
unfolding of_bits
left_range x f p =
    let v = left_value x f p in
    let a = num x % den x in
    let h : a < den x = mod-lt (num x) (den_pos x) in
    record {
      low = is_true _ (le_of_values (fin false 0 (pos 0)) (left_of x) 0 1 a (den x) (lit< tt) (den_pos x) (refl, refl) v (omega arith));
      high = is_true _ (below_one (left_of x) a (den x) v h);
      plus = unsigned (left_of x) a (den x) v;
    }
