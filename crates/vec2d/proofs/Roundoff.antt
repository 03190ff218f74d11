-- x1 and x2 of an accepted point are the numbers that they stand for, but for one part in 2^51 and two units (`Roundoff`). The product and the sum are rounded
-- by one part in 2^53 each, RSIN60 is half such a part below 2/√3, and the half is exact or off by half a unit. Assumes nothing.
use mathlib.Core.Path.{◌≡◌, refl, sym, ap, ◌∙◌, subst}
use mathlib.Core.Bool.{true, false, true≢false, false≢true}
use Prim.Native.Nat.{ℕ, zero, suc, ◌+◌, ◌-◌, ◌*◌, ◌/◌, ◌^◌, ◌≤◌, ◌<◌}
use native.Mathlib.Nat.{le_trans, le_of_eq, lt_of_le_of_lt, mul-one, mul-pos, mul-le-mul, mul-le-mul_left, mul-le-mul_right, le_of_mul-le-mul_right, eq_of_mul-eq-mul_right, pow-suc}
use native.Mathlib.Omega.{arith}
use lib.Dec.{T, lit<, lit≤}
use lib.Ieee.{Float, nan, inf, fin, binary64, down, fits, round, of_bits, mul, div}
use lib.Ieee.Fits.{down_pos, mul-fits}
use lib.Ieee.Exact.{HasValue, round_exact}
use lib.Ieee.Scale.{grid, round_same}
use Rattle.reply.specs.Replies.{fine}
use Rattle.double.specs.Double.{finite, size_of, rsin60, two}
use Rattle.double.specs.Sizes.{Upto, units_of}
use Rattle.double.proofs.Near.{Sharp, sharp}
use Rattle.double.proofs.Left.{same_fraction}
use Rattle.double.proofs.Units.{L, L_pos, units_equal, units_of_lem, OnGrid, on_grid, value_of, equals_of, add_round}
use Rattle.double.proofs.Nonnegative.{upto_le, halved_upto}
use Rattle.vec2d.specs.declared.Vec2d.{Vec2d}
use Rattle.vec2d.specs.Rounding.{round_verdict, Near, x1_of, x2_of}
use Rattle.vec2d.specs.Roundoff.{slack, ButFor, Roundoff}
use Rattle.vec2d.proofs.Accepted.{accepted, first_upto, second_upto}
use Rattle.vec2d.proofs.Fractions.{half_is}
use Rattle.vec2d.proofs.Unique.{Held}

-- ---- RSIN60 is C / 2^52, a little below 2/√3

abbrev C : ℕ
C = 5200308914369308

-- 2/√3 lies between C / 2^52 and (C + 1/3) / 2^52: by squares, a test on numbers
c_under : 3 * (C * C) ≤ 4 * (2 ^ 52 * 2 ^ 52)
c_under = lit≤ tt

c_over : 4 * (3 * 2 ^ 52 * (3 * 2 ^ 52)) ≤ 3 * ((3 * C + 1) * (3 * C + 1))
c_over = lit≤ tt

-- where u is at most y · c/d, and (c/d)² at most q/p
squares : (p q c d u y : ℕ) → 0 < d → p * (c * c) ≤ q * (d * d) → u * d ≤ y * c → p * (u * u) ≤ q * (y * y)
squares p q c d u y D k h =
    le_of_mul-le-mul_right {k = d * d} (omega (arith, mul-le-mul_left p (mul-le-mul h h), mul-le-mul_left (y * y) k)) (mul-pos D D)

-- ---- the product: X is Y · C / 2^52, rounded

-- X · 2^52 is off by at most this, from Y · C and from Y · (C + 1/3): X is off by 7/8 of a part in 2^52, 9/16 of a unit, and next to nothing
abbrev off : ℕ → ℕ
off X = 7 * X / 8 + 9 * 2 ^ 48 + 2

record Product (Y X D : ℕ) : Type 0 where
  most : X * 2 ^ 52 ≤ Y * C + D
  least : Y * (3 * C + 1) ≤ 3 * (X * 2 ^ 52 + D)

product : (Y X : ℕ) → Sharp (Y * C) (2 ^ 52) X → Product Y X (off X)
product Y X r =
    let a = apart (Y * C) (X * 2 ^ 52) (2 ^ 52 * 2 ^ 52) r.most r.least in
    record { most = under (Y * C) (shared _ a.0); least = over (shared _ a.1) }
  where
    -- one part in 2^53 of n is little more of z
    apart : (n z E : ℕ) → z * 2 ^ 53 ≤ n * (2 ^ 53 + 1) + E → n * 2 ^ 53 ≤ z * 2 ^ 53 + n + E
        → ((z - n) * (2 ^ 53 - 1) ≤ z + E) × ((n - z) * (2 ^ 53 - 1) ≤ z + E)
    apart n z E h k = (omega arith, omega arith)

    halves : (D W : ℕ) → D * (2 ^ 53 - 1) ≤ W * 2 ^ 52 → 16 * D ≤ 9 * W
    halves D W h = omega arith

    shared : (D : ℕ) → D * (2 ^ 53 - 1) ≤ X * 2 ^ 52 + 2 ^ 52 * 2 ^ 52 → 16 * D ≤ 9 * (X + 2 ^ 52)
    shared D h = halves D (X + 2 ^ 52) (omega arith)

    under : (K : ℕ) → 16 * (X * 2 ^ 52 - K) ≤ 9 * (X + 2 ^ 52) → X * 2 ^ 52 ≤ K + off X
    under K h = omega arith

    -- what C + 1/3 adds, a third of Y, in terms of X
    small : 16 * (Y * C - X * 2 ^ 52) ≤ 9 * (X + 2 ^ 52) → 8 * Y ≤ 7 * X + 8
    small h = omega arith

    third : (K : ℕ) → 16 * (K - X * 2 ^ 52) ≤ 9 * (X + 2 ^ 52) → 8 * Y ≤ 7 * X + 8 → 3 * K + Y ≤ 3 * (X * 2 ^ 52 + off X)
    third K h k = omega arith

    over : 16 * (Y * C - X * 2 ^ 52) ≤ 9 * (X + 2 ^ 52) → Y * (3 * C + 1) ≤ 3 * (X * 2 ^ 52 + off X)
    over h = omega (arith, third (Y * C) h (small h))

-- ---- what a slack is worth: two units at least, and one unit over one part in 2^51

record Slack (e n : ℕ) : Type 0 where
  some : 2 ≤ e
  part : n + 2 ^ 51 ≤ e * 2 ^ 51

slack_is : (n : ℕ) → Slack (slack n) n
slack_is n = record { some = omega arith; part = omega arith }

-- ---- the second coordinate, in units: X

second_units : (Y X : ℕ) → Product Y X (off X) → ButFor 0 (4 * (Y * Y)) X (slack X)
second_units Y X p = go (slack X) (slack_is X)
  where
    most : (K X e : ℕ) → X * 2 ^ 52 ≤ K + off X → Slack e X → (X - e - 0) * 2 ^ 52 ≤ K
    most K X e h s = omega arith

    least : (K X e : ℕ) → K ≤ 3 * (X * 2 ^ 52 + off X) → Slack e X → K ≤ (X + e - 0) * (3 * 2 ^ 52)
    least K X e h s = omega arith

    go : (e : ℕ) → Slack e X → ButFor 0 (4 * (Y * Y)) X e
    go e s = record {
      reached = omega arith;
      under = squares 3 4 C (2 ^ 52) (X - e - 0) Y (lit< tt) c_under (most (Y * C) X e p.most s);
      over = squares 4 3 (3 * 2 ^ 52) (3 * C + 1) Y (X + e - 0) (lit< tt) c_over (least (Y * (3 * C + 1)) X e p.least s);
    }

-- ---- the first coordinate, in units: H is X / 2 rounded, and S is A + H rounded

-- off by half a unit at most
record Halved (X H : ℕ) : Type 0 where
  most : 2 * H ≤ X + 1
  least : X ≤ 2 * H + 1

first_units : (Y X H A S : ℕ) → Product Y X (off X) → Halved X H → Sharp (A + H) 1 S → ButFor A (Y * Y) S (slack S)
first_units Y X H A S p h t = go (slack S) (slack_is S)
  where
    little : (T : ℕ) → T * 2 ^ 53 ≤ S * 1 * 2 ^ 53 + T + 1 * 2 ^ 52 → 64 * T ≤ 65 * (S + 1)
    little T h = omega arith

    -- the slack takes in what the product, the half and the sum are off
    room : (X H T S e : ℕ) → X ≤ 2 * H + 1 → H ≤ T → 64 * T ≤ 65 * (S + 1) → Slack e S → off X + T + 2 ^ 53 ≤ 2 ^ 53 * e
    room X H T S e h k t s = omega arith

    -- twice the difference, to compare with X and not with its half
    most : (K D e : ℕ) → X * 2 ^ 52 ≤ K + D → D + (A + H) + 2 ^ 53 ≤ 2 ^ 53 * e → 2 * (S - e - A) * 2 ^ 52 ≤ K
    most K D e p r = omega arith

    least : (K D e : ℕ) → K ≤ 3 * (X * 2 ^ 52 + D) → D + (A + H) + 2 ^ 53 ≤ 2 ^ 53 * e → (A ≤ S + e) × (K ≤ 2 * (S + e - A) * (3 * 2 ^ 52))
    least K D e p r = (omega arith, omega arith)

    go : (e : ℕ) → Slack e S → ButFor A (Y * Y) S e
    go e s =
        let r = room X H (A + H) S e h.least (omega arith) (little (A + H) t.least) s in
        let l = least (Y * (3 * C + 1)) (off X) e p.least r in
        record {
          reached = l.0;
          under = omega (arith, squares 3 4 C (2 ^ 52) (2 * (S - e - A)) Y (lit< tt) c_under (most (Y * C) (off X) e p.most r));
          over = omega (arith, squares 4 3 (3 * 2 ^ 52) (3 * C + 1) Y (2 * (S + e - A)) (lit< tt) c_over l.1);
        }

-- ---- a rounded double, in units

-- a common factor of the fraction
cancel : (L n c g : ℕ) → 0 < L → Sharp (n * L) (c * L) g → Sharp n c g
cancel L n c g P r = record {
  most = le_of_mul-le-mul_right {k = L} (omega (arith, r.most)) P;
  least = le_of_mul-le-mul_right {k = L} (omega (arith, r.least)) P;
}

-- x is a / c units, rounded to g units
record RoundsTo (x : Float) (a c g : ℕ) : Type 0 where
  from : x ≡ round binary64 false a (c * L)
  value : HasValue x false g L
  near : Sharp a c g

rounds_to : (x : Float) (a c : ℕ) → 0 < c → x ≡ round binary64 false a (c * L) → finite x ≡ true → RoundsTo x a c (units_of x)
rounds_to x a c P e h =
    let g = grid binary64 a (c * L) in
    let v = value_of x a (c * L) e h in
    let u = sym (units_of_lem x g (equals_of x false g L v)) in
    record {
      from = e;
      value = subst (λ (n : ℕ). HasValue x false n L) u v;
      near = subst (λ (n : ℕ). Sharp a c n) u (cancel L a c g L_pos (sharp a (c * L) (mul-pos P L_pos)));
    }

-- |x| is as many units as x
size_value : (x : Float) → T (fits binary64 x) → finite x ≡ true → HasValue (size_of x) false (units_of x) L
size_value nan f h = absurd (false≢true h)
size_value (inf s) f h = absurd (false≢true h)
size_value (fin s m e) f h = (refl, units_equal (fin s m e) f h)

-- x · RSIN60 is a · C / (2^52 · c), rounded
times_is : (x : Float) (a c : ℕ) → 0 < c → HasValue x false a c → mul binary64 x rsin60 ≡ round binary64 false (a * C) (2 ^ 52 * c)
unfolding mul of_bits
times_is nan a c P v = absurd v
times_is (inf s) a c P v = absurd v
times_is (fin true m e) a c P v = absurd (true≢false v.0)
times_is (fin false m e) a c P v =
    round_same binary64 false _ _ (a * C) (2 ^ 52 * c) (mul-pos (down_pos e) (lit< tt)) (omega arith) (omega (arith, v.1))

-- ---- the half of a double

-- one value, in halves and in wholes
twice : (X H L : ℕ) → 0 < L → H * (2 * L) ≡ X * L → X ≡ 2 * H
twice X H L P e = eq_of_mul-eq-mul_right L P X (2 * H) (omega (arith, e))

-- A number up to 2^26 has up to 2^26 · L units.
top : (x : Float) (X L : ℕ) → Upto (2 ^ 26 - 1) x → HasValue x false X L → X ≤ (2 ^ 26 - 1) * L
top nan X L u v = absurd v
top (inf s) X L u v = absurd v
top (fin s m e) X L u v = le_of_mul-le-mul_right {k = down e} (omega (arith, v.1, mul-le-mul_right L u.under.size)) (down_pos e)

-- Half of a double: where its units are digits times a power of two, exact; where they are the digits alone, below 2^53, off by half a unit at most.
halved : (x y : Float) (H : ℕ) → T (fits binary64 x) → Upto (2 ^ 26 - 1) x → HasValue x false (units_of x) L → RoundsTo y (units_of x) 2 H → Halved (units_of x) H
halved x y H f u v i = go (units_of x) (top x (units_of x) L u v) (on_grid x f u.under.number) i
  where
    low : (X : ℕ) → X < 2 ^ 53 → Sharp X 2 H → Halved X H
    low X h r = record { most = omega (arith, r.most); least = omega (arith, r.least) }

    same : (X : ℕ) → X ≡ 2 * H → Halved X H
    same X h = record { most = omega arith; least = omega arith }

    part : (m P X : ℕ) → X ≡ m * (P * 2) → (m * P ≤ X) × ((L : ℕ) → X * L ≡ m * P * (2 * L))
    part m P X h = (omega arith, λ L. omega (arith, ap (λ (n : ℕ). n * L) h))

    by : (X m j : ℕ) → X ≤ (2 ^ 26 - 1) * L → X ≡ m * 2 ^ j → m < 2 ^ 53 → RoundsTo y X 2 H → Halved X H
    by X m zero l h g i = low X (lt_of_le_of_lt (le_of_eq (h ∙ mul-one m)) g) i.near
    by X m (suc j) l h g i =
        let p = part m (2 ^ j) X (h ∙ ap (λ (n : ℕ). m * n) (pow-suc 2 j)) in
        let clear : m * 2 ^ j < 2 ^ 2098 = lt_of_le_of_lt (le_trans p.0 l) (lit< tt) in
        let exact : HasValue y false X (2 * L) = subst (λ (z : Float). HasValue z false X (2 * L)) (sym i.from) (round_exact binary64 false X (2 * L) m j (lit< tt) g clear (p.1 L)) in
        same X (twice X H L L_pos (same_fraction y X (2 * L) H L exact i.value))

    go : (X : ℕ) → X ≤ (2 ^ 26 - 1) * L → OnGrid X → RoundsTo y X 2 H → Halved X H
    go X l g i = by X g.digits g.power l g.is g.few i

-- ---- the coordinates of a point

module _ (v : Vec2d) (f : Held v) (p : Near v) where
  abbrev half : Float
  half = div binary64 (x2_of v) two

  x2_rounds : RoundsTo (x2_of v) (units_of v.y * C) (2 ^ 52) (units_of (x2_of v))
  x2_rounds =
      let y = size_value v.y f.y p.y.number in
      rounds_to (x2_of v) _ (2 ^ 52) (lit< tt) (times_is (size_of v.y) (units_of v.y) L L_pos y) (second_upto v p).under.number

  x2_halved : RoundsTo half (units_of (x2_of v)) 2 (units_of half)
  x2_halved =
      let u = halved_upto (2 ^ 26) (x2_of v) (upto_le (2 ^ 26 - 1) (2 * 2 ^ 26) (x2_of v) (lit≤ tt) (second_upto v p)) (lit≤ tt) in
      rounds_to half (units_of (x2_of v)) 2 (lit< tt) (half_is (x2_of v) (units_of (x2_of v)) L L_pos x2_rounds.value) u.under.number

  x1_rounds : RoundsTo (x1_of v) (units_of v.x + units_of half) 1 (units_of (x1_of v))
  x1_rounds =
      let x = size_value v.x f.x p.x.number in
      rounds_to (x1_of v) _ 1 (lit< tt) (add_round (size_of v.x) half (units_of v.x) (units_of half) x x2_halved.value) (first_upto v p).under.number

  both : Roundoff v
  both =
      let x2 = units_of (x2_of v) in
      let y = units_of v.y in
      let t = product y x2 x2_rounds.near in
      let h = halved (x2_of v) half (units_of half) (mul-fits binary64 _ _) (second_upto v p) x2_rounds.value x2_halved in
      record { first = first_units y x2 (units_of half) (units_of v.x) (units_of (x1_of v)) t h x1_rounds.near; second = second_units y x2 t }

-- The coordinates of an accepted point are the numbers that they stand for, but for their slack.
pub roundoff : (v : Vec2d) → Held v → round_verdict v ≡ fine → Roundoff v
roundoff v f e = both v f (accepted v e)
