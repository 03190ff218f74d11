-- With a frame, a vector and a level that pass, no number on the way to the plane point is a NaN or an infinity, and the point is not too far:
-- at most 28824005 in each part, below 2^25. Assumes nothing.
use mathlib.Core.Path.{◌≡◌, refl}
use mathlib.Core.Bool.{Bool, true, false, ◌&&◌, ◌||◌, false≢true}
use mathlib.Core.List.{List}
use Prim.Native.Nat.{ℕ, ◌-◌, ◌*◌, ◌/◌, ◌%◌, ◌^◌, ◌≤◌, ◌<◌}
use native.Mathlib.Nat.{le_trans, le_of_lt}
use native.Mathlib.Omega.{arith}
use borrow.Author.Tests.{le-ltb, ne_eqb}
use lib.Dec.{lit<, lit≤, leb, leb→le, ltb, eqb}
use lib.Ieee.{Float, nan, inf, fin, binary64, up, down, mul, le, of_bits}
use lib.Ieee.Fits.{down_pos}
use Rattle.reply.specs.Choice.{pick}
use Rattle.level.proofs.Computed.{at}
use Rattle.double.specs.Double.{size_of, limit, two_and_half, sin60}
use Rattle.double.specs.Sizes.{Under}
use Rattle.double.proofs.Sizes.{under_le, whole_under, mul_under}
use Rattle.double.proofs.Over.{exact_20}
use Rattle.double.proofs.Tests.{not_below_half}
use Rattle.vec2d.specs.declared.Vec2d.{Vec2d}
use Rattle.vec2d.specs.Points.{is_point}
use Rattle.vec2d.specs.Rounding.{too_far}
use Rattle.vec3d.specs.declared.Vec3d.{Vec3d}
use Rattle.vec3d.specs.declared.FaceAxes.{FaceAxes}
use Rattle.vec3d.specs.Vectors.{bad_number, off_sphere}
use Rattle.vec3d.specs.Frame.{face_at, bad_frame}
use Rattle.vec3d.specs.Sizes.{AxesUnder}
use Rattle.vec3d.proofs.Sizes.{unit_under, face_under, dot_under}
use Rattle.face_projection.specs.declared.FaceProjection.{FaceProjection}
use Rattle.face_projection.specs.Projection.{behind, projection_of, seven_to, even_level, odd_level, at_level, point_of}
use Rattle.face_projection.proofs.Units.{Within, within_le, within_under, scaled_within, add_within, sub_within, halves_within}
use Rattle.face_projection.proofs.Reach.{dot_reach}

-- both parts of a point are at most n in size
pub record PointUnder (n : ℕ) (q : Vec2d) : Type 0 where
  pub x : Under n q.x
  pub y : Under n q.y

-- x0 and y0 are at most n units of 2^-20 in size
pub record StartWithin (n : ℕ) (q : FaceProjection) : Type 0 where
  pub x0 : Within (2 ^ 20) n q.x0
  pub y0 : Within (2 ^ 20) n q.y0

-- x0 and y0 of a vector that is not behind the face are finite, and at most 10897140 units, about 10.39.
pub start_within : (a : FaceAxes) (p : Vec3d) → AxesUnder a → bad_number p ≡ false → off_sphere p ≡ false → behind a p ≡ false
    → StartWithin 10897140 (projection_of a p)
unfolding projection_of behind
start_within a p axes good on front =
    let below = dot_under 2 2 p a.centre (unit_under p good on) axes.centre (lit≤ tt) in
    let half = not_below_half _ below.number front in
    record {
      x0 = halves_within (2 ^ 20) (lit< tt) exact_20 5448570 _ _ (dot_reach p good on a.u axes.u) below.number half.some half.least (lit< tt);
      y0 = halves_within (2 ^ 20) (lit< tt) exact_20 5448570 _ _ (dot_reach p good on a.v axes.v) below.number half.some half.least (lit< tt);
    }

seven_under : (h : ℕ) → h ≤ 7 → Under 823543 (seven_to h)
unfolding seven_to
seven_under h l =
    let small : 7 ^ h ≤ 823543 = leb→le _ _ (at (λ (k : ℕ). leb (7 ^ k) 823543) 8 tt h (omega arith)) in
    under_le (7 ^ h) 823543 _ small (whole_under (7 ^ h) (le_trans small (lit≤ tt)))

even_under : (l : ℕ) (q : FaceProjection) → l ≤ 15 → StartWithin 10897140 q → PointUnder 28824005 (even_level l q)
unfolding even_level
even_under l q h p =
    let s = seven_under (l / 2) (omega arith) in
    let whole : (x : Float) → Within (2 ^ 20) 10897140 x → Under 11 x = λ x w. within_under (2 ^ 20) 11 x (lit< tt) (within_le (2 ^ 20) 10897140 11534336 x (lit≤ tt) w) in
    record {
      x = under_le 9058973 28824005 _ (lit≤ tt) (mul_under 11 823543 q.x0 (seven_to (l / 2)) (whole q.x0 p.x0) s (lit≤ tt));
      y = under_le 9058973 28824005 _ (lit≤ tt) (mul_under 11 823543 q.y0 (seven_to (l / 2)) (whole q.y0 p.y0) s (lit≤ tt));
    }

-- two and a half times x0, and 0.8660254037844386 times y0: together at most 35
two_and_half_times : (x : Float) → Within (2 ^ 20) 10897140 x → Within (2 ^ 20) 27242850 (mul binary64 two_and_half x)
unfolding of_bits
two_and_half_times x w = scaled_within (2 ^ 20) (lit< tt) exact_20 10897140 27242850 two_and_half x refl w (lit≤ tt) (lit< tt)

sin60_times : (x : Float) → Within (2 ^ 20) 10897140 x → Within (2 ^ 20) 9437201 (mul binary64 sin60 x)
unfolding of_bits
sin60_times x w = scaled_within (2 ^ 20) (lit< tt) exact_20 10897140 9437201 sin60 x refl w (lit≤ tt) (lit< tt)

odd_under : (l : ℕ) (q : FaceProjection) → l ≤ 15 → StartWithin 10897140 q → PointUnder 28824005 (odd_level l q)
unfolding odd_level
odd_under l q h p =
    let s = seven_under ((l - 1) / 2) (omega arith) in
    let whole : (x : Float) → Within (2 ^ 20) 36680051 x → Under 35 x = λ x w. within_under (2 ^ 20) 35 x (lit< tt) (within_le (2 ^ 20) 36680051 36700160 x (lit≤ tt) w) in
    record {
      x = mul_under 823543 35 _ _ s (whole _ (add_within (2 ^ 20) (lit< tt) exact_20 27242850 9437201 _ _ (two_and_half_times q.x0 p.x0) (sin60_times q.y0 p.y0) (lit< tt))) (lit≤ tt);
      y = mul_under 823543 35 _ _ s (whole _ (sub_within (2 ^ 20) (lit< tt) exact_20 27242850 9437201 _ _ (two_and_half_times q.y0 p.y0) (sin60_times q.x0 p.x0) (lit< tt))) (lit≤ tt);
    }

level_under : (l : ℕ) (q : FaceProjection) → l ≤ 15 → StartWithin 10897140 q → PointUnder 28824005 (at_level l q)
unfolding at_level
level_under l q h p = go (eqb (l % 2) 0)
  where
    go : (b : Bool) → PointUnder 28824005 (pick b (even_level l q) (odd_level l q))
    go true = even_under l q h p
    go false = odd_under l q h p

no_test : (a b : ℕ) (t : Bool) → b < a → (ltb a b || (eqb a b && t)) ≡ false
no_test a b t h = rw (le-ltb a b (le_of_lt h), ne_eqb a b (λ e. omega arith))

-- what is at most 28824005 in size is not 2^25 or more
not_far : (x : Float) → Under 28824005 x → le limit (size_of x) ≡ false
unfolding le of_bits
not_far nan p = refl
not_far (inf s) p = absurd (false≢true p.number)
not_far (fin s m e) p =
    let l : m * up e ≤ 28824005 * down e = p.size in
    no_test (1 * 2 ^ 25 * down e) (m * up e * 1) true (omega (arith, down_pos e))

module _ (s : List Float) (f l : ℕ) (p : Vec3d) (frame : bad_frame s ≡ false) (face : f < 20) (level : l ≤ 15) (good : bad_number p ≡ false)
    (on : off_sphere p ≡ false) (front : behind (face_at s f) p ≡ false) where
  -- The plane point of a vector that is not behind the face is at most 28.8 million in each part, at every level.
  pub point_under : PointUnder 28824005 (point_of (face_at s f) l p)
  point_under = level_under l (projection_of (face_at s f) p) level (start_within (face_at s f) p (face_under s f frame face) good on front)

  -- So it is finite,
  pub point_finite : is_point (point_of (face_at s f) l p) ≡ true
  unfolding is_point
  point_finite = rw (point_under.x.number, point_under.y.number)

  -- and it is never too far.
  pub point_near : too_far (point_of (face_at s f) l p) ≡ false
  unfolding too_far
  point_near = rw (not_far _ point_under.x, not_far _ point_under.y)
