-- A frame without a doubtful face passes document 01's test: three sums of squares say enough of each face. Assumes nothing.
use mathlib.Core.Path.{◌≡◌, refl, ◌∙◌}
use mathlib.Core.Bool.{Bool, true, false, not, ◌&&◌, cond, false≢true}
use mathlib.Core.List.{List}
use Prim.Native.Nat.{ℕ, ◌+◌, ◌-◌, ◌*◌, ◌^◌, ◌≤◌, ◌<◌}
use native.Mathlib.Nat.{le_trans, lt_irrefl}
use native.Mathlib.Omega.{arith}
use lib.IntN.{ℤ}
use lib.Dec.{T, ltb, leb, leb→le, nleb→lt, ltb→lt, nltb→le, lit<, lit≤}
use lib.ListN.{length}
use lib.Ieee.{Float, nan, inf, fin, binary64, of_bits, up, down, round, sum, add, sub, neg, lt, eq, le}
use lib.Ieee.Fits.{down_pos}
use lib.Ieee.Exact.{HasValue, round_exact}
use lib.Ieee.Order.{round_mono, le_of_values}
use lib.Ieee.Positive.{positive, positive_of_value, values_of_le, le_trans_positive, between}
use borrow.Author.Tests.{not-false}
use Rattle.reply.proofs.Entries.{both}
use Rattle.double.specs.Double.{size_of, mul_add_of, sphere_low, sphere_high}
use Rattle.double.proofs.Sizes.{round_size}
use Rattle.double.proofs.Nonnegative.{signed, add_plus, square_plus}
use Rattle.double.proofs.Tests.{holds, between_le}
use Rattle.double.proofs.Squares.{below_under, below_finite}
use Rattle.vec3d.specs.declared.Vec3d.{Vec3d}
use Rattle.vec3d.specs.Vectors.{dot_of, off_sphere}
use Rattle.vec3d.specs.Frame.{face_at, some_below, bad_frame}
use Rattle.vec3d.specs.AsAsked.{loose, unfit, nine, certain, near_one, doubtful}
use Rattle.vec3d.proofs.Passing.{none_at}
use Rattle.vec3d.proofs.OnePass.{parts_finite, under_narrow, none_below, by_faces}

-- ---- u and v: squares that sum to less than 9

tight_axis : (v : Vec3d) → lt (dot_of v v) nine ≡ true → loose v ≡ false
unfolding dot_of loose of_bits
tight_axis v e =
    let f = parts_finite v (below_finite v.x v.y v.z nine refl e) in
    let u = below_under v.x v.y v.z 3 nine (lit< tt) (refl, refl) f.0 f.1 f.2 e in
    rw (under_narrow v.x u.0, under_narrow v.y u.1, under_narrow v.z u.2)

-- ---- the centre: a square that is 1 but for 2^-41

-- A fraction that rounds to at most 2^-41 is at most 2^-40: from there on it would round to 2^-40 or more.
small : (k d : ℕ) → 0 < d → le (round binary64 false k d) certain ≡ true → k * 2 ^ 40 ≤ d
unfolding of_bits
small k d D e = go (leb (k * 2 ^ 40) d) (leb→le (k * 2 ^ 40) d) (nleb→lt (k * 2 ^ 40) d)
  where
    low : Float
    low = round binary64 false 1 (2 ^ 40)

    value : HasValue low false 1 (2 ^ 40)
    value = round_exact binary64 false 1 (2 ^ 40) 1 1034 (lit< tt) (lit< tt) (lit< tt) refl

    above : d < k * 2 ^ 40 → ⊥
    above l =
        let r = round binary64 false k d in
        let a : T (le low r) = round_mono binary64 1 (2 ^ 40) k d (lit< tt) D (omega arith) in
        let b : T (le r certain) = holds e in
        let p = positive_of_value low 1 (2 ^ 40) value (lit< tt) in
        let q : T (positive certain) = tt in
        let v = values_of_le low certain 1 (2 ^ 40) 1 (2 ^ 41) p q value (refl, refl) (le_trans_positive low r certain p (between low r certain p q a b) q a b) in
        lt_irrefl (2 ^ 40) (le_trans (lit≤ tt) v)

    go : (b : Bool) → (T b → k * 2 ^ 40 ≤ d) → (T (not b) → d < k * 2 ^ 40) → k * 2 ^ 40 ≤ d
    go true f g = f tt
    go false f g = absurd (above (g tt))

-- what is so near to 1 lies between the ends
ends : (m : ℕ) (e : ℤ) → near_one (fin false m e) ≡ true → ((2 ^ 40 - 1) * down e ≤ m * up e * 2 ^ 40) × (m * up e * 2 ^ 40 ≤ (2 ^ 40 + 1) * down e)
unfolding near_one sub add neg sum of_bits
ends m e h =
    let b = both _ _ h in
    let M = m * up e * 1 in
    let D = 1 * 1 * down e in
    go (ltb M D) (ltb→lt M D) (nltb→le M D) (between_le _ _ _ b.1 b.0)
  where
    go : (t : Bool) → (T t → m * up e * 1 < 1 * 1 * down e) → (T (not t) → 1 * 1 * down e ≤ m * up e * 1)
        → le (size_of (cond t (round binary64 true (1 * 1 * down e - m * up e * 1) (down e * 1)) (round binary64 (false && ltb (1 * 1 * down e) (m * up e * 1)) (m * up e * 1 - 1 * 1 * down e) (down e * 1)))) certain ≡ true
        → ((2 ^ 40 - 1) * down e ≤ m * up e * 2 ^ 40) × (m * up e * 2 ^ 40 ≤ (2 ^ 40 + 1) * down e)
    go true f g l = let s = small (1 * 1 * down e - m * up e * 1) (down e * 1) (omega (arith, down_pos e)) (rw (round_size true _ _) at l) in omega (arith, s, f tt)
    go false f g l = let s = small (m * up e * 1 - 1 * 1 * down e) (down e * 1) (omega (arith, down_pos e)) (rw (round_size false _ _) at l) in omega (arith, s, g tt)

square_on : (q : Float) → size_of q ≡ q → near_one q ≡ true → (le sphere_low q && le q sphere_high) ≡ true
unfolding near_one sub add neg le lt eq of_bits
square_on nan p h = absurd (false≢true h)
square_on (inf true) p h = absurd (false≢true (cc))
square_on (inf false) p h = absurd (false≢true h)
square_on (fin true m e) p h = signed m e p
square_on (fin false m e) p h =
    let b = ends m e h in
    let a : T (le sphere_low (fin false m e)) = le_of_values sphere_low (fin false m e) (2 ^ 40 - 1) (2 ^ 40) (m * up e) (down e) (lit< tt) (down_pos e) (refl, refl) (refl, refl) b.0 in
    let c : T (le (fin false m e) sphere_high) = le_of_values (fin false m e) sphere_high (m * up e) (down e) (2 ^ 40 + 1) (2 ^ 40) (down_pos e) (lit< tt) (refl, refl) (refl, refl) b.1 in
    join (le sphere_low (fin false m e)) (le (fin false m e) sphere_high) a c
  where
    join : (x y : Bool) → T x → T y → (x && y) ≡ true
    join true true p q = refl
    join true false p q = absurd q
    join false y p q = absurd p

dot_plus : (v : Vec3d) → size_of (dot_of v v) ≡ dot_of v v
unfolding dot_of mul_add_of
dot_plus v = add_plus _ _ (square_plus v.x) (add_plus _ _ (square_plus v.y) (square_plus v.z))

centre_on : (v : Vec3d) → near_one (dot_of v v) ≡ true → off_sphere v ≡ false
unfolding off_sphere
centre_on v e = rw (square_on (dot_of v v) (dot_plus v) e)

-- ---- the frame

module _ (s : List Float) where
  face_fit : (f : ℕ) → doubtful s f ≡ false → unfit s f ≡ false
  unfolding doubtful unfit
  face_fit f e =
      let a = both _ _ (not-false _ e) in
      let b = both _ _ a.0 in
      rw (tight_axis (face_at s f).u b.0, tight_axis (face_at s f).v b.1, centre_on (face_at s f).centre a.1)

  -- Without a doubtful face, a frame of 180 numbers passes.
  pub no_doubt : length s ≡ 180 → some_below (doubtful s) 20 ≡ false → bad_frame s ≡ false
  no_doubt long e = by_faces s long ∙ none_below (unfit s) 20 (λ f l. face_fit f (none_at (doubtful s) 20 f e l))
