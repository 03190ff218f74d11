-- A vector whose squared length is a number from 0.25 up, divided by its length, passes the sphere test: `UnitLength`, of doubles. Assumes nothing.
use mathlib.Core.Path.{◌≡◌, refl, sym, ap, ◌∙◌, subst}
use mathlib.Core.Bool.{Bool, true, false, true≢false}
use Prim.Native.Nat.{ℕ, zero, suc, ◌+◌, ◌-◌, ◌*◌, ◌^◌, ◌≤◌, ◌<◌}
use native.Mathlib.Nat.{le_trans, le_of_eq, lt_of_le_of_lt, mul_comm, mul_right_comm, one-mul, mul-pos, mul-le-mul_right, le_of_mul-le-mul_right}
use native.Mathlib.Omega.{arith}
use lib.Dec.{T, nltb→le, lit<, lit≤}
use lib.Ieee.{Float, nan, inf, fin, binary64, up, down, unlike, round, of_bits, add, mul, div, lt, le, fits}
use lib.Ieee.Bits.{is_true}
use lib.Ieee.Digits.{Equals}
use lib.Ieee.Fits.{down_pos, add-fits}
use lib.Ieee.Exact.{HasValue}
use lib.Ieee.Order.{le_of_values}
use Rattle.reply.specs.Replies.{fine}
use Rattle.double.specs.Double.{finite, quarter, mul_add_of, sphere_low, sphere_high}
use Rattle.double.specs.Sizes.{units_of, Under}
use Rattle.double.proofs.Finite.{add_finite}
use Rattle.double.proofs.Near.{Rel}
use Rattle.double.proofs.Tests.{fails}
use Rattle.double.proofs.Units.{L, units_equal, units_of_lem, round_sized, value_of, equals_of, sign, times_u, mul_round, times_near, plus_u, add_round, plus_near, over_u, div_round, over_near}
use Rattle.vec3d.specs.declared.Vec3d.{Vec3d}
use Rattle.vec3d.specs.Vectors.{dot_of, off_sphere, vector_verdict}
use Rattle.vec3d.specs.Sizes.{PartsUnder}
use Rattle.vec3d.proofs.OnePass.{parts_finite, on_sphere}
use Rattle.vec3d.proofs.Sizes.{dot_under}
use Rattle.root.specs.Root.{root_of}
use Rattle.root.proofs.Near.{Root, root_u, root_near, root_units}
use Rattle.globe.specs.Points.{divided_by}
use Rattle.globe.proofs.OneTest.{positive}
use Rattle.globe.proofs.UnitLength.{Part, Sums, small, parts_under, sphere_most, sphere_least}

-- A vector that a program holds: each part is a value of the format, as every f64 is.
pub record Held (v : Vec3d) : Type 0 where
  pub x : T (fits binary64 v.x)
  pub y : T (fits binary64 v.y)
  pub z : T (fits binary64 v.z)

-- ---- a squared length, in units

square_value : (x : Float) (X : ℕ) → Equals x X L → finite (mul binary64 x x) ≡ true → HasValue (mul binary64 x x) false (times_u X X) L
square_value x X v h = value_of (mul binary64 x x) (X * X) (L * L) (mul_round x x X X v v ∙ ap (λ (s : Bool). round binary64 s (X * X) (L * L)) (alike (sign x))) h
  where
    alike : (s : Bool) → unlike s s ≡ false
    alike true = refl
    alike false = refl

sum_value : (x y : Float) (X Y : ℕ) → HasValue x false X L → HasValue y false Y L → finite (add binary64 x y) ≡ true → HasValue (add binary64 x y) false (plus_u X Y) L
sum_value x y X Y p q h = value_of (add binary64 x y) (X + Y) L (add_round x y X Y p q) h

-- the parts of a vector are X, Y and Z units
record Units (v : Vec3d) (X Y Z : ℕ) : Type 0 where
  x : Equals v.x X L
  y : Equals v.y Y L
  z : Equals v.z Z L

abbrev inner_u : ℕ → ℕ → ℕ
inner_u Y Z = plus_u (times_u Y Y) (times_u Z Z)

abbrev square_u : ℕ → ℕ → ℕ → ℕ
square_u X Y Z = plus_u (times_u X X) (inner_u Y Z)

dot_value : (v : Vec3d) (X Y Z : ℕ) → Units v X Y Z → finite (dot_of v v) ≡ true → HasValue (dot_of v v) false (square_u X Y Z) L
unfolding dot_of mul_add_of
dot_value v X Y Z u h =
    let a = add_finite _ _ h in
    let b = add_finite _ _ a.1 in
    let inner = sum_value _ _ (times_u Y Y) (times_u Z Z) (square_value v.y Y u.y b.0) (square_value v.z Z u.z b.1) a.1 in
    sum_value _ _ (times_u X X) (inner_u Y Z) (square_value v.x X u.x a.0) inner h

sums : (x y z : ℕ) → Sums x y z (plus_u y z) (plus_u x (plus_u y z))
sums x y z = record { inner = plus_near y z; outer = plus_near x (plus_u y z) }

-- ---- the two tests, in units

-- what is not below 0.25
from_quarter : (s : Float) (q : ℕ) → HasValue s false q L → lt s quarter ≡ false → L ≤ 4 * q
unfolding lt of_bits
from_quarter nan q v h = absurd v
from_quarter (inf t) q v h = absurd v
from_quarter (fin true m e) q v h = absurd (true≢false v.0)
from_quarter (fin false m e) q v h = go L v.1 (nltb→le (m * up e * 4) (1 * 1 * down e) (fails h))
  where
    go : (L : ℕ) → m * up e * L ≡ q * down e → 1 * 1 * down e ≤ m * up e * 4 → L ≤ 4 * q
    go L v k =
        le_of_mul-le-mul_right
        (le_trans (le_of_eq (mul_comm L (down e)))
        (le_trans (mul-le-mul_right L (le_trans (le_of_eq (sym (one-mul (down e)))) k))
        (le_of_eq (mul_right_comm (m * up e) 4 L ∙ ap (λ (n : ℕ). n * 4) v ∙ mul_right_comm q (down e) 4 ∙ ap (λ (n : ℕ). n * down e) (mul_comm q 4)))))
        (down_pos e)

low_value : HasValue sphere_low false (2 ^ 40 - 1) (2 ^ 40)
unfolding of_bits
low_value = (refl, refl)

high_value : HasValue sphere_high false (2 ^ 40 + 1) (2 ^ 40)
unfolding of_bits
high_value = (refl, refl)

-- what lies within one part in 2^40 of 1
within : (v : Vec3d) (D : ℕ) → HasValue (dot_of v v) false D L → D * 2 ^ 40 ≤ L * (2 ^ 40 + 1) → L * 2 ^ 40 ≤ D * 2 ^ 40 + L → off_sphere v ≡ false
unfolding off_sphere
within v D d h k =
    let e = ends L D h k in
    let low = is_true (le sphere_low (dot_of v v)) (le_of_values sphere_low (dot_of v v) (2 ^ 40 - 1) (2 ^ 40) D L (lit< tt) (lit< tt) low_value d e.0) in
    let high = is_true (le (dot_of v v) sphere_high) (le_of_values (dot_of v v) sphere_high D L (2 ^ 40 + 1) (2 ^ 40) (lit< tt) (lit< tt) d high_value e.1) in
    rw (low, high)
  where
    ends : (L D : ℕ) → D * 2 ^ 40 ≤ L * (2 ^ 40 + 1) → L * 2 ^ 40 ≤ D * 2 ^ 40 + L → ((2 ^ 40 - 1) * L ≤ D * 2 ^ 40) × (D * 2 ^ 40 ≤ (2 ^ 40 + 1) * L)
    ends L D h k = (omega arith, omega arith)

-- ---- the vector over its length

root_pos : (q : ℕ) → 0 < q → 0 < root_u q
root_pos q Q = go (q * L) (root_u q) (root_near q Q).least (mul-pos Q (lit< tt))
  where
    go : (x g : ℕ) → Rel (2 ^ 50) x (g * g) → 0 < x → 0 < g
    go x zero r h = omega (arith, r.says)
    go x (suc g) r h = omega arith

-- a part of X units over l of Λ units, where the square of X is in the sum q
module _ (q Λ : ℕ) (S : Root L q Λ) (P : 0 < Λ) (near : L ≤ 4 * q) where
  part : (X : ℕ) → Part L Λ (times_u X X) (times_u (over_u X Λ) (over_u X Λ))
  part X = record { part = X; quotient = over_u X Λ; square = times_near X X; over = over_near X Λ P; again = times_near (over_u X Λ) (over_u X Λ) }

  module _ (x l : Float) (X : ℕ) (v : Equals x X L) (w : HasValue l false Λ L) (h : times_u X X + 1 ≤ 4 * q) where
    few : over_u X Λ ≤ 4 * L + 2
    unfolding part
    few = small L q Λ S (lit< tt) (times_u X X) (times_u (over_u X Λ) (over_u X Λ)) (part X) h near (lit≤ tt)

    quotient_value : Equals (div binary64 x l) (over_u X Λ) L
    quotient_value =
        let s = unlike (sign x) false in
        subst (λ (z : Float). Equals z (over_u X Λ) L) (sym (div_round x l X Λ P v w))
        (equals_of (round binary64 s X Λ) s (over_u X Λ) L (round_sized s X Λ (lt_of_le_of_lt few (lit< tt))))

    quotient_under : Under 5 (div binary64 x l)
    quotient_under = five (div binary64 x l) (over_u X Λ) quotient_value few
      where
        bound : (L a b X : ℕ) → 2 ≤ L → a * L ≡ X * b → X ≤ 4 * L + 2 → a * L ≤ 5 * b * L
        bound L a b X h e k = le_trans (le_of_eq e) (le_trans (mul-le-mul_right b (five_times L X h k)) (le_of_eq (mul_right_comm 5 L b)))
          where
            five_times : (L X : ℕ) → 2 ≤ L → X ≤ 4 * L + 2 → X ≤ 5 * L
            five_times L X h k = omega arith

        five : (y : Float) (Y : ℕ) → Equals y Y L → Y ≤ 4 * L + 2 → Under 5 y
        five nan Y v k = absurd v
        five (inf s) Y v k = absurd v
        five (fin s m e) Y v k = record { number = refl; size = le_of_mul-le-mul_right (bound L (m * up e) (down e) Y (lit≤ tt) v k) (lit< tt) }

module _ (v : Vec3d) (held : Held v) (number : finite (dot_of v v) ≡ true) (far : lt (dot_of v v) quarter ≡ false) where
  abbrev X : ℕ
  X = units_of v.x

  abbrev Y : ℕ
  Y = units_of v.y

  abbrev Z : ℕ
  Z = units_of v.z

  abbrev q : ℕ
  q = square_u X Y Z

  abbrev Λ : ℕ
  Λ = root_u q

  abbrev l : Float
  l = root_of (dot_of v v)

  units : Units v X Y Z
  units =
      let f = parts_finite v number in
      record { x = units_equal v.x held.x f.0; y = units_equal v.y held.y f.1; z = units_equal v.z held.z f.2 }

  value : HasValue (dot_of v v) false q L
  value = dot_value v X Y Z units number

  near : L ≤ 4 * q
  near = from_quarter (dot_of v v) q value far

  eight : (8 ≤ q) × (0 < q)
  eight = go L q (lit≤ tt) near
    where
      go : (L q : ℕ) → 2 ^ 60 ≤ L → L ≤ 4 * q → (8 ≤ q) × (0 < q)
      go L q h k = (omega arith, omega arith)

  S : Root L q Λ
  S = root_near q eight.1

  P : 0 < Λ
  P = root_pos q eight.1

  length : HasValue l false Λ L
  unfolding dot_of mul_add_of
  length =
      subst (λ (n : ℕ). HasValue l false (root_u n) L) (units_of_lem (dot_of v v) q (equals_of (dot_of v v) false q L value))
      (root_units (dot_of v v) (add-fits binary64 _ _) (positive (dot_of v v) number far))

  abbrev unit : Vec3d
  unit = divided_by l v

  under : (times_u X X + 1 ≤ 4 * q) × (times_u Y Y + 1 ≤ 4 * q) × (times_u Z Z + 1 ≤ 4 * q)
  under = parts_under (times_u X X) (times_u Y Y) (times_u Z Z) (inner_u Y Z) q (sums (times_u X X) (times_u Y Y) (times_u Z Z)) eight.0

  abbrev A : ℕ
  A = over_u X Λ

  abbrev B : ℕ
  B = over_u Y Λ

  abbrev C : ℕ
  C = over_u Z Λ

  small_parts : PartsUnder 5 unit
  unfolding divided_by
  small_parts =
      record {
        x = quotient_under q Λ S P near v.x l X units.x length under.0;
        y = quotient_under q Λ S P near v.y l Y units.y length under.1;
        z = quotient_under q Λ S P near v.z l Z units.z length under.2;
      }

  unit_units : Units unit A B C
  unfolding divided_by
  unit_units =
      record {
        x = quotient_value q Λ S P near v.x l X units.x length under.0;
        y = quotient_value q Λ S P near v.y l Y units.y length under.1;
        z = quotient_value q Λ S P near v.z l Z units.z length under.2;
      }

  unit_value : HasValue (dot_of unit unit) false (square_u A B C) L
  unit_value = dot_value unit A B C unit_units (dot_under 5 5 unit unit small_parts small_parts (lit≤ tt)).number

  passes : off_sphere unit ≡ false
  passes =
      let p = part q Λ S P near in
      let R = sums (times_u X X) (times_u Y Y) (times_u Z Z) in
      let E = sums (times_u A A) (times_u B B) (times_u C C) in
      within unit (square_u A B C) unit_value
      (sphere_most L q Λ (times_u X X) (times_u A A) (times_u Y Y) (times_u B B) (times_u Z Z) (times_u C C) (inner_u Y Z) (inner_u B C) (square_u A B C) S (p X) (p Y) (p Z) R E (lit≤ tt) near)
      (sphere_least L q Λ (times_u X X) (times_u A A) (times_u Y Y) (times_u B B) (times_u Z Z) (times_u C C) (inner_u Y Z) (inner_u B C) (square_u A B C) S (p X) (p Y) (p Z) R E (lit≤ tt) near)

  -- Such a vector over its length is on the sphere, by the test of document 01.
  pub unit_fine : vector_verdict (divided_by (root_of (dot_of v v)) v) ≡ fine
  unit_fine = rw (on_sphere unit passes, passes)
