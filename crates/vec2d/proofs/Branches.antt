-- The branches choose a centre whose hexagon holds the leftovers, but for 2^-40 of its size. Assumes nothing.
use mathlib.Core.Path.{◌≡◌, refl}
use mathlib.Core.Bool.{Bool, true, false, ◌&&◌, ◌||◌}
use Prim.Native.Nat.{ℕ, ◌+◌, ◌-◌, ◌*◌, ◌^◌, ◌≤◌, ◌<◌}
use native.Mathlib.Nat.{one-mul}
use native.Mathlib.Omega.{arith}
use lib.Dec.{lit<, lit≤}
use lib.Ieee.{Float, binary64, round, div, lt, le, of_bits}
use lib.Ieee.Exact.{HasValue}
use lib.Ieee.Order.{round_mono}
use lib.Ieee.Back.{round_whole}
use lib.Ieee.Positive.{num, den}
use lib.Ieee.Scale.{round_same}
use Rattle.reply.specs.Choice.{pick}
use Rattle.vec2d.specs.Rounding.{steps, third, halfway, thirds, middle_of, rest_of, twice_of, less_one_of, halved_of, steps_of}
use Rattle.vec2d.proofs.Fractions.{twice_is, half_is, one_and_is, from_one_is}
use Rattle.vec2d.proofs.Telling.{Told, lt_tells, le_tells, told, E, Close, round_close, near_half, near_less_one, Above, Below, first_read, last_read, rounded}

-- The point (p - q, r - s) lies in the hexagon of size h about the centre 0: by the six centres round it.
pub record Within (p q r s h : ℕ) : Type 0 where
  pub i : 2 * p + s ≤ 2 * q + r + h
  pub i' : 2 * q + r ≤ 2 * p + s + h
  pub j : 2 * r + q ≤ 2 * s + p + h
  pub j' : 2 * s + p ≤ 2 * r + q + h
  pub ij : p + r ≤ q + s + h
  pub ij' : q + s ≤ p + r + h

-- ---- the choice by what the tests say, in whole numbers: the leftovers are x / w and y / w, and e is far less than w

-- What each test of `steps_of` says: r1 against 1/2, 1/3 and 2/3; r2 against (1 + r1)/2, 1 - r1, 2·r1, 2·r1 - 1 and r1/2. 1/2 is a double, and each of
-- the others may be off by its roundings. Of 2·r1 - 1 something is said only where it is not negative, as it is in the stripe that asks for it.
record Says (x y w e : ℕ) (h t t' m p v l f : Bool) : Type 0 where
  halves : Told h (2 * x ≤ w) (w ≤ 2 * x)
  third : Told t (Below e 3 w x) (Above e 3 w x)
  thirds : Told t' (Below e 3 (2 * w) x) (Above e 3 (2 * w) x)
  middle : Told m (Above e 2 (w + x) y) (Below e 2 (w + x) y)
  past : Told p (Above e 1 (w - x) y) (Below e 1 (w - x) y)
  twice : Told v (Below e 1 (2 * x) y) (Above e 1 (2 * x) y)
  less_one : w ≤ 2 * x → Told l (Below e 1 (2 * x - w) y) (Above e 1 (2 * x - w) y)
  halved : Told f (Above e 2 x y) (Below e 2 x y)

module _ (x y w e : ℕ) (px : x < w) (py : y < w) (pe : 100 * e ≤ w) where
  choice : (h t t' m p v l f : Bool) → Says x y w e h t t' m p v l f
      → let s = pick h (pick t (steps false m) (steps (p && v) p)) (pick t' (steps (l || p) p) (steps true f)) in
      Within x (pick s.i w 0) y (pick s.j w 0) (w + 16 * e)
  choice true true t' true p v l f c = omega (arith, c.third.yes tt, c.middle.yes tt)
  choice true true t' false p v l f c = omega (arith, c.third.yes tt, c.middle.no tt)
  choice true false t' m true true l f c = omega (arith, c.halves.yes tt, c.third.no tt, c.past.yes tt, c.twice.yes tt)
  choice true false t' m true false l f c = omega (arith, c.halves.yes tt, c.third.no tt, c.past.yes tt, c.twice.no tt)
  choice true false t' m false v l f c = omega (arith, c.halves.yes tt, c.third.no tt, c.past.no tt)
  choice false t true m true v true f c = omega (arith, c.halves.no tt, c.thirds.yes tt, c.past.yes tt)
  choice false t true m true v false f c = omega (arith, c.halves.no tt, c.thirds.yes tt, c.past.yes tt)
  choice false t true m false v true f c = omega (arith, c.halves.no tt, c.thirds.yes tt, c.past.no tt, (c.less_one (c.halves.no tt)).yes tt)
  choice false t true m false v false f c = omega (arith, c.halves.no tt, c.thirds.yes tt, c.past.no tt, (c.less_one (c.halves.no tt)).no tt)
  choice false t false m p v l true c = omega (arith, c.thirds.no tt, c.halved.yes tt)
  choice false t false m p v l false c = omega (arith, c.thirds.no tt, c.halved.no tt)

-- ---- the numbers that the leftovers are compared with: 1/2 is exact, and the others are but for two units

half_value : HasValue halfway false 1 2
unfolding of_bits
half_value = (refl, refl)

third_is : (d : ℕ) → 0 < d → third ≡ round binary64 false d (3 * d)
unfolding div of_bits
third_is d D = round_same binary64 false 1 3 d (3 * d) (lit< tt) (omega arith) (omega arith)

thirds_is : (d : ℕ) → 0 < d → thirds ≡ round binary64 false (2 * d) (3 * d)
unfolding div of_bits
thirds_is d D = round_same binary64 false 2 3 (2 * d) (3 * d) (lit< tt) (omega arith) (omega arith)

module _ (r1 : Float) (d n1 : ℕ) (p1 : n1 < d) (v1 : HasValue r1 false n1 d) where
  D : 0 < d
  D = omega (arith, p1)

  third_near : Close 2 third d (3 * d)
  third_near = rounded third d 3 d (third_is d D) (omega (arith, D)) (omega arith)

  thirds_near : Close 2 thirds (2 * d) (3 * d)
  thirds_near = rounded thirds d 3 (2 * d) (thirds_is d D) (omega (arith, D)) (omega arith)

  middle_near : Close 2 (middle_of r1) (d + n1) (2 * d)
  middle_near = near_half _ (d + n1) d (rw (one_and_is r1 n1 d D v1) (round_close (d + n1) d D (omega arith))) D

  rest_near : Close 2 (rest_of r1) (d - n1) (1 * d)
  rest_near = rounded (rest_of r1) d 1 (d - n1) (rw (one-mul d) (from_one_is r1 n1 (d - n1) d D v1 (omega arith))) (omega (arith, D)) (omega arith)

  twice_near : Close 2 (twice_of r1) (2 * n1) (1 * d)
  twice_near = rounded (twice_of r1) d 1 (2 * n1) (rw (one-mul d) (twice_is r1 n1 d D v1)) (omega (arith, D)) (omega arith)

  -- 2·r1 is at least 1 here, and then so is what it rounds to
  less_one_near : d ≤ 2 * n1 → Close 2 (less_one_of r1) (2 * n1 - d) (1 * d)
  less_one_near h =
      let x = round binary64 false (2 * n1) d in
      let n = round_close (2 * n1) d D (omega arith) in
      let o = round_mono binary64 1 1 (2 * n1) d (lit< tt) D (omega arith) in
      let g = (told le_tells (round binary64 false 1 1) x 1 1 (num x) (den x) (round_whole binary64 false 1 (lit≤ tt)) n.own).yes o in
      rw (one-mul d, twice_is r1 n1 d D v1) (near_less_one x (2 * n1) (2 * n1 - d) d n (omega arith) (omega (arith, g)) D)

  halved_near : Close 2 (halved_of r1) n1 (2 * d)
  halved_near = rounded (halved_of r1) d 2 n1 (half_is r1 n1 d D v1) (omega (arith, D)) (omega arith)

-- ---- what the tests say

module _ (r1 r2 : Float) (d n1 n2 : ℕ) (p1 : n1 < d) (p2 : n2 < d) (v1 : HasValue r1 false n1 d) (v2 : HasValue r2 false n2 d) where
  says : Says (E * n1) (E * n2) (E * d) d (lt r1 halfway) (lt r1 third) (lt r1 thirds) (le (middle_of r1) r2) (le (rest_of r1) r2) (lt r2 (twice_of r1)) (le r2 (less_one_of r1)) (le (halved_of r1) r2)
  says =
      let t = told lt_tells r1 halfway n1 d 1 2 v1 half_value in
      record {
        halves = record { yes = λ y. omega (arith, t.yes y); no = λ n. omega (arith, t.no n) };
        third = last_read lt_tells third r1 d 3 (E * d) n1 d refl (third_near r1 d n1 p1 v1) v1;
        thirds = last_read lt_tells thirds r1 d 3 (2 * (E * d)) n1 (2 * d) (omega arith) (thirds_near r1 d n1 p1 v1) v1;
        middle = first_read le_tells (middle_of r1) r2 d 2 (E * d + E * n1) n2 (d + n1) (omega arith) (middle_near r1 d n1 p1 v1) v2;
        past = first_read le_tells (rest_of r1) r2 d 1 (E * d - E * n1) n2 (d - n1) (omega arith) (rest_near r1 d n1 p1 v1) v2;
        twice = last_read lt_tells (twice_of r1) r2 d 1 (2 * (E * n1)) n2 (2 * n1) (omega arith) (twice_near r1 d n1 p1 v1) v2;
        less_one = λ h. last_read le_tells (less_one_of r1) r2 d 1 (2 * (E * n1) - E * d) n2 (2 * n1 - d) (omega arith) (less_one_near r1 d n1 p1 v1 (omega (arith, h))) v2;
        halved = first_read le_tells (halved_of r1) r2 d 2 (E * n1) n2 n1 refl (halved_near r1 d n1 p1 v1) v2;
      }

-- ---- the theorem

-- 2^-40 is 16 units of 1 / E.
coarser : (i j : Bool) (d m n : ℕ) → Within (E * m) (pick i (E * d) 0) (E * n) (pick j (E * d) 0) (E * d + 16 * d)
    → Within (2 ^ 40 * m) (pick i (2 ^ 40 * d) 0) (2 ^ 40 * n) (pick j (2 ^ 40 * d) 0) (2 ^ 40 * d + d)
coarser true true d m n h = omega arith
coarser true false d m n h = omega arith
coarser false true d m n h = omega arith
coarser false false d m n h = omega arith

-- Leftovers n1 / d and n2 / d below 1 lie in the hexagon of the chosen centre, but for 2^-40 of its size.
pub chosen_within : (r1 r2 : Float) (d n1 n2 : ℕ) → n1 < d → n2 < d → HasValue r1 false n1 d → HasValue r2 false n2 d
    → let s = steps_of r1 r2 in
    Within (2 ^ 40 * n1) (pick s.i (2 ^ 40 * d) 0) (2 ^ 40 * n2) (pick s.j (2 ^ 40 * d) 0) (2 ^ 40 * d + d)
unfolding steps_of
chosen_within r1 r2 d n1 n2 p1 p2 v1 v2 =
    let s = steps_of r1 r2 in
    coarser s.i s.j d n1 n2
    (choice (E * n1) (E * n2) (E * d) d (omega arith) (omega arith) (omega arith) _ _ _ _ _ _ _ _ (says r1 r2 d n1 n2 p1 p2 v1 v2))
