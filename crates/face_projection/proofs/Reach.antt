-- How far a unit vector reaches: the sizes of its three parts sum to at most 1816190 units of 2^-20, a little more than the square root of 3.
-- Assumes nothing.
use mathlib.Core.Path.{◌≡◌, refl, sym, ap, ◌∙◌}
use mathlib.Core.Bool.{true, false}
use Prim.Native.Nat.{ℕ, ◌+◌, ◌*◌, ◌/◌, ◌^◌, ◌≤◌}
use native.Mathlib.Nat.{le_refl, le_trans, le_of_eq, le_of_lt, mul-le-mul, mul-le-mul_right, mul_right_comm, add-mul, div-mul-le_self, lt-div-mul-add, le_of_mul-le-mul_right, lt_irrefl}
use native.Mathlib.Decide.{dec_le}
use native.Mathlib.Omega.{arith}
use lib.Dec.{T, lit<}
use lib.Ieee.{Float, nan, inf, fin, binary64, of_bits, up, down, mul, le}
use lib.Ieee.Fits.{down_pos}
use lib.Ieee.Positive.{num, den, den_pos}
use borrow.Author.Tests.{not-false}
use Rattle.reply.proofs.Entries.{both}
use Rattle.double.specs.Double.{finite, mul_add_of, sphere_low, sphere_high}
use Rattle.double.specs.Sizes.{Under}
use Rattle.double.proofs.Sizes.{le_of_test}
use Rattle.double.proofs.Over.{exact_20, exact_40, Over, add_over, square_over}
use Rattle.double.proofs.Tests.{holds}
use Rattle.coordijk.proofs.Distance.{outweigh}
use Rattle.vec3d.specs.declared.Vec3d.{Vec3d}
use Rattle.vec3d.specs.Vectors.{dot_of, bad_number, off_sphere}
use Rattle.vec3d.proofs.Sizes.{Finite, numbers, unit_under}
use Rattle.vec3d.specs.Sizes.{PartsUnder}
use Rattle.face_projection.proofs.Units.{Within, within_le, mul_within, add_within}

-- what is at most 1 + 2^-40 is at most 2^40 + 1 units of 2^-40
at_most : (k : ℕ) (x : Float) → Over (2 ^ 40) k x → T (le x sphere_high) → k ≤ 2 ^ 40 + 1
unfolding le of_bits
at_most k nan p q = absurd p
at_most k (inf true) p q = absurd p
at_most k (inf false) p q = absurd q
at_most k (fin true m e) p q = absurd p
at_most k (fin false m e) p q =
    le_of_mul-le-mul_right (le_trans p (le_trans (le_of_test (m * up e * 2 ^ 40) ((2 ^ 40 + 1) * 1 * down e) true q) (le_of_eq (ap (λ (z : ℕ). z * down e) (omega arith))))) (down_pos e)

-- the whole units of 2^-20 in a number's size: not above it, and one more is above it
units : Float → ℕ
units x = num x * 2 ^ 20 / den x

units_below : (x : Float) → units x * den x ≤ num x * 2 ^ 20
unfolding units
units_below x = div-mul-le_self (num x * 2 ^ 20) (den x)

units_above : (x : Float) → finite x ≡ true → Within (2 ^ 20) (units x + 1) x
unfolding units
units_above x f =
    record { number = f; size = le_trans (le_of_lt (lt-div-mul-add {a = num x * 2 ^ 20} (den_pos x))) (le_of_eq (sym (add-mul (units x) 1 (den x) ∙ ap (λ (z : ℕ). units x * den x + z) (omega arith)))) }

units_low : (x : Float) → Under 2 x → units x ≤ 2097152
units_low x u =
    le_of_mul-le-mul_right
    (le_trans (units_below x) (le_trans (mul-le-mul_right (2 ^ 20) u.size) (le_of_eq (mul_right_comm 2 (den x) (2 ^ 20))))) (den_pos x)

square_small : (a : ℕ) → a ≤ 2097152 → a * a ≤ 4398046511104
square_small a h = mul-le-mul h h

-- three numbers whose squares sum to at most 2^40 + 1 sum to at most 1816187
root : (a b c : ℕ) → a * a + (b * b + c * c) ≤ 2 ^ 40 + 1 → a + b + c ≤ 1816187
root a b c h =
    elim (dec_le (a + b + c) 1816187) [
      | yes l ↦ l
      | no l ↦ absurd (lt_irrefl 0 (omega (arith, mul-le-mul (over_it l) (over_it l), outweigh a b c)))
    ]
  where
    over_it : (a + b + c ≤ 1816187 → ⊥) → 1816188 ≤ a + b + c
    over_it l = omega arith

module _ (v : Vec3d) (good : bad_number v ≡ false) (on : off_sphere v ≡ false) where
  finite_parts : Finite v
  finite_parts = numbers v good

  low_parts : PartsUnder 2 v
  low_parts = unit_under v good on

  abbrev a : ℕ
  a = units v.x

  abbrev b : ℕ
  b = units v.y

  abbrev c : ℕ
  c = units v.z

  square_of : (x : Float) → finite x ≡ true → Under 2 x → Over (2 ^ 40) (units x * units x) (mul binary64 x x)
  square_of x f u =
      let s = square_small (units x) (units_low x u) in
      square_over (2 ^ 40) (lit< tt) exact_40 (2 ^ 20) (units x) x refl f (units_below x) (omega arith)

  squares : a * a + (b * b + c * c) ≤ 2 ^ 40 + 1
  unfolding dot_of mul_add_of off_sphere
  squares =
      let f = finite_parts in
      let l = low_parts in
      let sa = square_small a (units_low v.x l.x) in
      let sb = square_small b (units_low v.y l.y) in
      let sc = square_small c (units_low v.z l.z) in
      at_most (a * a + (b * b + c * c)) (dot_of v v)
      (add_over (2 ^ 40) (lit< tt) exact_40 (a * a) (b * b + c * c) _ _ _ (square_of v.x f.x l.x)
      (add_over (2 ^ 40) (lit< tt) exact_40 (b * b) (c * c) _ _ _ (square_of v.y f.y l.y) (square_of v.z f.z l.z) (le_refl _) (omega arith)) (le_refl _) (omega arith))
      (holds (both (le sphere_low (dot_of v v)) (le (dot_of v v) sphere_high) (not-false _ on)).1)

  -- A unit vector's dot product with a vector whose parts are at most 3 is at most 5448570 units: about 5.196, three times the square root of 3.
  pub dot_reach : (u : Vec3d) → PartsUnder 3 u → Within (2 ^ 20) 5448570 (dot_of v u)
  unfolding dot_of mul_add_of
  dot_reach u w =
      let f = finite_parts in
      let l = low_parts in
      let reach = root a b c squares in
      let part : (x y : Float) → finite x ≡ true → Under 2 x → Under 3 y → Within (2 ^ 20) ((units x + 1) * 3) (mul binary64 x y) =
      λ x y g h k. mul_within (2 ^ 20) (lit< tt) exact_20 (units x + 1) 3 x y (units_above x g) k (omega (arith, units_low x h)) in
      within_le (2 ^ 20) ((a + 1) * 3 + ((b + 1) * 3 + (c + 1) * 3)) 5448570 _ (omega arith)
      (add_within (2 ^ 20) (lit< tt) exact_20 ((a + 1) * 3) ((b + 1) * 3 + (c + 1) * 3) _ _ (part v.x u.x f.x l.x w.x)
      (add_within (2 ^ 20) (lit< tt) exact_20 ((b + 1) * 3) ((c + 1) * 3) _ _ (part v.y u.y f.y l.y w.y) (part v.z u.z f.z l.z w.z) (omega arith)) (omega arith))
