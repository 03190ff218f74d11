-- With a frame and a vector that pass, no number on the way to the nearest face is a NaN or an infinity. Assumes nothing.
use mathlib.Core.Path.{◌≡◌}
use mathlib.Core.Bool.{true, false, not, ◌||◌}
use mathlib.Core.List.{List}
use Prim.Native.Nat.{ℕ, ◌+◌, ◌*◌, ◌^◌, ◌≤◌, ◌<◌}
use native.Mathlib.Omega.{arith}
use lib.Dec.{lit≤}
use lib.Ieee.{Float, binary64, mul, le, lt}
use borrow.Author.Tests.{not-false}
use Rattle.reply.proofs.Entries.{neither, both}
use Rattle.double.specs.Double.{finite, size_of, mul_add_of, three, sphere_low, sphere_high}
use Rattle.double.specs.Sizes.{Under}
use Rattle.double.proofs.Sizes.{mul_under, mul_add_under, sub_under}
use Rattle.double.proofs.Tests.{not_above_under, three_value}
use Rattle.double.proofs.Squares.{sphere_under}
use Rattle.vec3d.specs.declared.Vec3d.{Vec3d}
use Rattle.vec3d.specs.Vectors.{dot_of, minus_of, bad_number, off_sphere, wide}
use Rattle.vec3d.specs.Frame.{face_at, bad_axes, bad_frame}
use Rattle.vec3d.specs.Nearest.{distance_of}
use Rattle.vec3d.specs.Sizes.{PartsUnder, AxesUnder}
use Rattle.vec3d.proofs.Passing.{passed_face, passed_vector}

pub record Finite (v : Vec3d) : Type 0 where
  pub x : finite v.x ≡ true
  pub y : finite v.y ≡ true
  pub z : finite v.z ≡ true

pub numbers : (v : Vec3d) → bad_number v ≡ false → Finite v
unfolding bad_number
numbers v e =
    let p = neither (not (finite v.x) || not (finite v.y)) (not (finite v.z)) e in
    let q = neither (not (finite v.x)) (not (finite v.y)) p.0 in
    record { x = not-false _ q.0; y = not-false _ q.1; z = not-false _ p.1 }

-- Each part of a vector that passes is at most 2 in size.
pub unit_under : (v : Vec3d) → bad_number v ≡ false → off_sphere v ≡ false → PartsUnder 2 v
unfolding off_sphere dot_of
unit_under v b o =
    let f = numbers v b in
    let u = sphere_under v.x v.y v.z f.x f.y f.z (both (le sphere_low (dot_of v v)) (le (dot_of v v) sphere_high) (not-false _ o)).1 in
    record { x = u.0; y = u.1; z = u.2 }

-- Each part of a u or v that passes is at most 3 in size.
pub tangent_under : (v : Vec3d) → bad_number v ≡ false → wide v ≡ false → PartsUnder 3 v
unfolding wide
tangent_under v b w =
    let f = numbers v b in
    let p = neither (lt three (size_of v.x) || lt three (size_of v.y)) (lt three (size_of v.z)) w in
    let q = neither (lt three (size_of v.x)) (lt three (size_of v.y)) p.0 in
    record {
      x = not_above_under 3 v.x three three_value f.x q.0;
      y = not_above_under 3 v.y three three_value f.y q.1;
      z = not_above_under 3 v.z three three_value f.z p.1;
    }

-- In a frame that passes, each part of a centre is at most 2 in size, each of u and v at most 3.
pub face_under : (s : List Float) (f : ℕ) → bad_frame s ≡ false → f < 20 → AxesUnder (face_at s f)
unfolding bad_axes
face_under s f e h =
    let p = neither (wide (face_at s f).u || wide (face_at s f).v) (off_sphere (face_at s f).centre) (passed_face s e f h) in
    let q = neither (wide (face_at s f).u) (wide (face_at s f).v) p.0 in
    record {
      centre = unit_under (face_at s f).centre (passed_vector s e (9 * f) (omega arith)) p.1;
      u = tangent_under (face_at s f).u (passed_vector s e (9 * f + 3) (omega arith)) q.0;
      v = tangent_under (face_at s f).v (passed_vector s e (9 * f + 6) (omega arith)) q.1;
    }

-- A dot product of vectors whose parts are at most a and at most b is at most 3·a·b.
pub dot_under : (a b : ℕ) (p q : Vec3d) → PartsUnder a p → PartsUnder b q → a * b + (a * b + a * b) ≤ 2 ^ 53
    → Under (a * b + (a * b + a * b)) (dot_of p q)
unfolding dot_of
dot_under a b p q u v h =
    mul_add_under a b (a * b + a * b) p.x q.x (mul_add_of p.y q.y (mul binary64 p.z q.z)) u.x v.x
    (mul_add_under a b (a * b) p.y q.y (mul binary64 p.z q.z) u.y v.y
    (mul_under a b p.z q.z u.z v.z (omega arith)) (omega arith)) h

minus_under : (a b : ℕ) (p q : Vec3d) → PartsUnder a p → PartsUnder b q → a + b ≤ 2 ^ 53 → PartsUnder (a + b) (minus_of p q)
unfolding minus_of
minus_under a b p q u v h =
    record {
      x = sub_under a b p.x q.x u.x v.x h;
      y = sub_under a b p.y q.y u.y v.y h;
      z = sub_under a b p.z q.z u.z v.z h;
    }

-- So every squared distance that the choice of the face compares is finite, and at most 48.
pub distance_under : (s : List Float) (p : Vec3d) (f : ℕ) → bad_frame s ≡ false → bad_number p ≡ false → off_sphere p ≡ false → f < 20
    → Under 48 (distance_of s p f)
unfolding distance_of
distance_under s p f e b o h =
    let away = minus_under 2 2 p (face_at s f).centre (unit_under p b o) (face_under s f e h).centre (lit≤ tt) in
    dot_under 4 4 _ _ away away (lit≤ tt)
