-- What a test of two doubles that are not negative says of their exact values, and how near a rounded fraction is to the exact one. Assumes nothing.
use mathlib.Core.Path.{◌≡◌, refl, sym, ap}
use mathlib.Core.Bool.{Bool, true, false, not, true≢false, false≢true}
use Prim.Native.Nat.{ℕ, ◌+◌, ◌-◌, ◌*◌, ◌/◌, ◌^◌, ◌≤◌, ◌<◌}
use native.Mathlib.Nat.{le_of_lt, lt_trans, mul_assoc, mul-le-mul_right, le_of_mul-le-mul_right, div-mul-le_self, lt-div-mul-add}
use native.Mathlib.Omega.{arith}
use mir.Facts.{or_no}
use lib.IntN.{ℤ}
use lib.Dec.{T, ltb, ltb→lt, nltb→le, lit<, lit≤}
use lib.Pow.{shl_lt, pow-lt}
use lib.Ieee.{Float, nan, inf, fin, binary64, up, down, round, sub, div, lt, le}
use lib.Ieee.Fits.{down_pos}
use lib.Ieee.Exact.{HasValue, round_exact}
use lib.Ieee.Order.{round_mono, transfer}
use lib.Ieee.Positive.{num, den, den_pos}
use Rattle.double.specs.Double.{finite, size_of, one, two}
use Rattle.double.proofs.Sizes.{le_of_test, round_size, round_under}
use Rattle.double.proofs.Nonnegative.{signed}
use Rattle.double.proofs.Over.{Exact}
use Rattle.vec2d.proofs.Fractions.{half_is, less_one_is}

-- ---- tests

-- A passed test says A, and a failed one B.
pub record Told (t : Bool) (A B : Type 0) : Type 0 where
  pub yes : T t → A
  pub no : T (not t) → B

-- A test that tells the order of any two fractions, as `le` and `lt` do. Equal fractions may pass or fail: either way both orders hold.
pub record Tells (o : Float → Float → Bool) : Type 0 where
  pub order : (m n : ℕ) (e f : ℤ) → Told (o (fin false m e) (fin false n f)) (m * up e * down f ≤ n * up f * down e) (n * up f * down e ≤ m * up e * down f)

-- `lt` tells the order.
pub lt_tells : Tells lt
unfolding lt
lt_tells = record { order = λ m n e f. record { yes = λ t. le_of_lt (ltb→lt _ _ t); no = λ t. nltb→le _ _ t } }

-- `le` tells the order.
pub le_tells : Tells le
unfolding le
le_tells = record {
  order = λ m n e f. record { yes = λ t. le_of_test _ _ true t; no = λ t. nltb→le _ _ (or_no (ltb (m * up e * down f) (n * up f * down e)) _ t).0 };
}

-- What such a test of x = a / c and y = b / d says of the two fractions.
pub told : {o : Float → Float → Bool} → Tells o → (x y : Float) (a c b d : ℕ) → HasValue x false a c → HasValue y false b d → Told (o x y) (a * d ≤ b * c) (b * c ≤ a * d)
told h nan y a c b d v w = absurd v
told h (inf s) y a c b d v w = absurd v
told h (fin true m e) y a c b d v w = absurd (true≢false v.0)
told h (fin false m e) nan a c b d v w = absurd w
told h (fin false m e) (inf s) a c b d v w = absurd w
told h (fin false m e) (fin true n f) a c b d v w = absurd (true≢false w.0)
told h (fin false m e) (fin false n f) a c b d v w = record {
  yes = λ t. transfer a b c d (m * up e) (n * up f) (down e) (down f) (down_pos e) (down_pos f) (sym v.1) (sym w.1) ((h.order m n e f).yes t);
  no = λ t. transfer b a d c (n * up f) (m * up e) (down f) (down e) (down_pos f) (down_pos e) (sym w.1) (sym v.1) ((h.order m n e f).no t);
}

-- ---- a rounded fraction

-- Nearness is counted in units of 1 / E: coarse enough that every whole number of them up to 2, and one more, is a double.
abbrev pub E : ℕ
E = 2 ^ 44

-- x is a / c but for t units; besides, x is not negative and at most 2.
pub record Close (t : ℕ) (x : Float) (a c : ℕ) : Type 0 where
  pub own : HasValue x false (num x) (den x)
  pub small : num x ≤ 2 * den x
  pub low : E * (a * den x) ≤ (E * num x + t * den x) * c
  pub high : E * (num x * c) ≤ (E * a + t * c) * den x

-- each number of units below 2^53 is a double
exact : Exact E
exact n h = round_exact binary64 false n E n 1030 (lit< tt) h (lt_trans (shl_lt 53 1030 h) (pow-lt {i = 1083} {j = 2098} (lit< tt))) (sym (mul_assoc n (2 ^ 1030) E))

-- a number whose sign is clear has its own fraction for its value
pub plus_value : (x : Float) → finite x ≡ true → size_of x ≡ x → HasValue x false (num x) (den x)
plus_value nan f p = absurd (false≢true f)
plus_value (inf s) f p = absurd (false≢true f)
plus_value (fin true m e) f p = signed m e p
plus_value (fin false m e) f p = (refl, refl)

-- A fraction that is at most 2 rounds to a double within one unit of it: it lies between two whole numbers of units, which are doubles, and rounding keeps the
-- order.
pub round_close : (a c : ℕ) → 0 < c → a ≤ 2 * c → Close 1 (round binary64 false a c) a c
round_close a c C h =
    let x = round binary64 false a c in
    let u = round_under false a c 2 C (lit≤ tt) h in
    let own = plus_value x u.number (round_size false a c) in
    let g = a * E / c in
    let f = div-mul-le_self (a * E) c in
    let n = lt-div-mul-add {a = a * E} {b = c} C in
    let s : g ≤ 2 * E = le_of_mul-le-mul_right {k = c} (omega arith) C in
    let under = round_mono binary64 g E a c (lit< tt) C f in
    let over = round_mono binary64 a c (g + 1) E C (lit< tt) (omega arith) in
    let l = (told le_tells (round binary64 false g E) x g E (num x) (den x) (exact g (omega arith)) own).yes under in
    let r = (told le_tells x (round binary64 false (g + 1) E) (num x) (den x) (g + 1) E own (exact (g + 1) (omega arith))).yes over in
    record {
      own = own;
      small = u.size;
      low = omega (arith, mul-le-mul_right (den x) n, mul-le-mul_right c l);
      high = omega (arith, mul-le-mul_right c r, mul-le-mul_right (den x) f);
    }

-- ---- the numbers that are rounded twice

-- Half of a number within one unit of a / c is within two of a / 2·c.
pub near_half : (x : Float) (a c : ℕ) → Close 1 x a c → 0 < c → Close 2 (div binary64 x two) a (2 * c)
near_half x a c h C =
    let y = round binary64 false (num x) (2 * den x) in
    let X = den_pos x in
    let g = round_close (num x) (2 * den x) (omega arith) (omega (arith, h.small)) in
    rw (half_is x (num x) (den x) X h.own)
    (record {
      own = g.own;
      small = g.small;
      low = le_of_mul-le-mul_right {k = den x} (omega (arith, mul-le-mul_right c g.low, mul-le-mul_right (den y) h.low)) X;
      high = le_of_mul-le-mul_right {k = den x} (omega (arith, mul-le-mul_right c g.high, mul-le-mul_right (den y) h.high)) X;
    })

-- One less than a number that is at least 1 and within one unit of a / c is within two of (a - c) / c: k is a - c.
pub near_less_one : (x : Float) (a k c : ℕ) → Close 1 x a c → a ≡ c + k → den x ≤ num x → 0 < c → Close 2 (sub binary64 x one) k c
near_less_one x a k c h e l C =
    let b = num x - den x in
    let s : num x ≡ den x + b = omega arith in
    let y = round binary64 false b (den x) in
    let X = den_pos x in
    let g = round_close b (den x) X (omega (arith, h.small)) in
    let t = ap (λ (z : ℕ). z * (c * den y)) s in
    let r = ap (λ (z : ℕ). z * (den x * den y)) e in
    rw (less_one_is x (num x) b (den x) X h.own s)
    (record {
      own = g.own;
      small = g.small;
      low = le_of_mul-le-mul_right {k = den x} (omega (arith, mul-le-mul_right c g.low, mul-le-mul_right (den y) h.low, t, r)) X;
      high = le_of_mul-le-mul_right {k = den x} (omega (arith, mul-le-mul_right c g.high, mul-le-mul_right (den y) h.high, t, r)) X;
    })

-- ---- a test of r = p / d against an x close to b / (k · d): what it says of P = E · p and a = E · b, but for two units

-- r is at least x: P / d is at least a / (k · d), but for 2.
abbrev pub Above : ℕ → ℕ → ℕ → ℕ → Type 0
Above d k a P = a ≤ k * (P + 2 * d)

-- r is at most x: P / d is at most a / (k · d), but for 2.
abbrev pub Below : ℕ → ℕ → ℕ → ℕ → Type 0
Below d k a P = k * P ≤ a + 2 * (k * d)

module _ {o : Float → Float → Bool} (f : Tells o) (x r : Float) (d k a p b : ℕ) (e : E * b ≡ a) (h : Close 2 x b (k * d)) (v : HasValue r false p d) where
  above : num x * d ≤ p * den x → Above d k a (E * p)
  above l = le_of_mul-le-mul_right {k = den x} (omega (arith, h.low, mul-le-mul_right k l, ap (λ (z : ℕ). z * den x) e)) (den_pos x)

  below : p * den x ≤ num x * d → Below d k a (E * p)
  below l = le_of_mul-le-mul_right {k = den x} (omega (arith, h.high, mul-le-mul_right k l, ap (λ (z : ℕ). z * den x) e)) (den_pos x)

  -- A test with x first.
  pub first_read : Told (o x r) (Above d k a (E * p)) (Below d k a (E * p))
  first_read = let t = told f x r (num x) (den x) p d h.own v in record { yes = λ y. above (t.yes y); no = λ n. below (t.no n) }

  -- A test with x last.
  pub last_read : Told (o r x) (Below d k a (E * p)) (Above d k a (E * p))
  last_read = let t = told f r x p d (num x) (den x) v h.own in record { yes = λ y. below (t.yes y); no = λ n. above (t.no n) }

looser : {x : Float} {a c : ℕ} → Close 1 x a c → Close 2 x a c
looser h = record { own = h.own; small = h.small; low = omega (arith, h.low); high = omega (arith, h.high) }

-- An x that is a / (k · d) rounded once, in the shape that both readings ask.
pub rounded : (x : Float) (d k a : ℕ) → x ≡ round binary64 false a (k * d) → 0 < k * d → a ≤ 2 * (k * d) → Close 2 x a (k * d)
rounded x d k a e D h = rw e (looser (round_close a (k * d) D h))
