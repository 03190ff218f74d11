-- A centre whose hexagon holds a point, but for 2^-40 of its size, is the nearest one as `Nearest` has it. Assumes nothing.
use mathlib.Core.Path.{◌≡◌, sym, ap, ◌∙◌}
use Prim.Native.Nat.{ℕ, zero, suc, ◌+◌, ◌-◌, ◌*◌, ◌^◌, ◌≤◌, ◌<◌}
use native.Mathlib.Nat.{mul-le-mul_right, le_of_mul-le-mul_right}
use native.Mathlib.Omega.{arith}
use lib.IntN.{ℤ, pos, negsuc, neg_ℤ-neg_ℤ, ◌+ℤ◌, ◌-ℤ◌, ◌*ℤ◌}
use lib.Dec.{le→leb, leb→le}
use lib.Signed.{◌≤ℤ◌, le_z_yes}
use Rattle.coordijk.proofs.Differences.{View, view, diff_pos, same}
use Rattle.vec2d.specs.Nearest.{measure, apart, from_centre, Nearest}
use Rattle.vec2d.proofs.Branches.{Within}
use Rattle.vec2d.proofs.Measures.{Sides, sides, cross, Is, Measured, measured}

abbrev N : ℕ
N = 2 ^ 40

-- the hexagon of size d about the centre (i, j), and 2^-40 of it more, holds the point (m, n)
abbrev Holds : ℕ → ℕ → ℕ → ℕ → ℕ → Type 0
Holds m n i j d = Within (N * m) (N * i) (N * n) (N * j) (N * d + d)

-- ---- another centre

-- one that is k steps one way and l steps the next way is k² + kl + l² away
enough : (k l : ℕ) → (N + 1) * (k + l) ≤ N * (k * k + k * l + l * l) + 1
enough zero zero = omega arith
enough zero (suc zero) = omega arith
enough zero (suc (suc l)) = omega arith
enough (suc zero) zero = omega arith
enough (suc k) (suc l) = omega arith
enough (suc (suc k)) zero = omega arith

wide : (k l d : ℕ) → (N + 1) * (k * d + l * d) * d ≤ N * (k * d * (k * d) + k * d * (l * d) + l * d * (l * d)) + d * d
wide k l d = omega (arith, mul-le-mul_right (d * d) (enough k l))

-- the measure z is not below c by more than d² / N
abbrev Over : ℕ → ℕ → ℤ → Type 0
Over c d z = pos (N * c) ≤ℤ (pos N *ℤ z +ℤ pos (d * d))

over : (m n i j c d : ℕ) → ((c' : ℕ) → Is c' m n i j → N * c ≤ N * c' + d * d) → Over c d (apart m n (pos i) (pos j))
over m n i j c d h = let o = measured m n i j in rw o.of (le_z_yes (le→leb (N * c) (N * o.c + d * d) (h o.c o.is)))

-- a point's coordinate from another centre, which is k steps further on than the one at i, or k steps back
data Step (n i d : ℕ) (z : ℤ) : Type 0 where
  on : (k : ℕ) → z ≡ pos n -ℤ pos (i + k * d) → Step n i d z
  back : (k : ℕ) → z ≡ pos (n + k * d) -ℤ pos i → Step n i d z

times : (d x y z : ℕ) → x ≡ y + z → x * d ≡ y * d + z * d
times d x y z f = rw f (omega arith)

step : (n i d : ℕ) (a : ℤ) → Step n (d * i) d (pos n -ℤ pos d *ℤ a)
step n i d (pos a) = go (view a i)
  where
    go : View a i → Step n (d * i) d (pos n -ℤ pos (d * a))
    go (View.up k f) = let e : d * a ≡ d * i + k * d = omega (arith, times d a i k f) in on k (ap (λ (z : ℕ). pos n -ℤ pos z) e)
    go (View.down k f) = back (suc k) (same n (d * a) (n + suc k * d) (d * i) (omega (arith, times d i a (suc k) f)))
step n i d (negsuc a) =
    back (suc a + i)
    (ap (λ (z : ℤ). pos n +ℤ z) (neg_ℤ-neg_ℤ (pos (d * suc a))) ∙ sym (diff_pos (n + (suc a + i) * d) (d * i) (n + d * suc a) (omega arith)))

-- by the sixth of the plane in which the other centre lies: it is k steps along one side of that and l along the other
module _ (m n i j d c : ℕ) (h : Holds m n i j d) (e : Is c m n i j) where
  least : {z w : ℤ} → Step m i d z → Step n j d w → Over c d (measure z w)
  least (on x f) (on y g) = rw (f, g) (go (sides x y))
    where
      go : Sides x y → Over c d (apart m n (pos (i + x * d)) (pos (j + y * d)))
      go (Sides.first k s) = rw (times d x y k s) (over m n (i + (y * d + k * d)) (j + y * d) c d (omega (arith, wide k y d, mul-le-mul_right (k * d) h.i, mul-le-mul_right (y * d) h.ij)))
      go (Sides.last k s) = rw (times d y x k s) (over m n (i + x * d) (j + (x * d + k * d)) c d (omega (arith, wide k x d, mul-le-mul_right (k * d) h.j, mul-le-mul_right (x * d) h.ij)))
  least (on x f) (back y g) = rw (f, g) (over m (n + y * d) (i + x * d) j c d (omega (arith, wide x y d, mul-le-mul_right (x * d) h.i, mul-le-mul_right (y * d) h.j')))
  least (back x f) (on y g) = rw (f, g) (over (m + x * d) n i (j + y * d) c d (omega (arith, wide x y d, mul-le-mul_right (x * d) h.i', mul-le-mul_right (y * d) h.j)))
  least (back x f) (back y g) = rw (f, g) (go (sides x y))
    where
      go : Sides x y → Over c d (apart (m + x * d) (n + y * d) (pos i) (pos j))
      go (Sides.first k s) = rw (times d x y k s) (over (m + (y * d + k * d)) (n + y * d) i j c d (omega (arith, wide k y d, mul-le-mul_right (k * d) h.i', mul-le-mul_right (y * d) h.ij')))
      go (Sides.last k s) = rw (times d y x k s) (over (m + x * d) (n + (x * d + k * d)) i j c d (omega (arith, wide k x d, mul-le-mul_right (k * d) h.j', mul-le-mul_right (x * d) h.ij')))

-- ---- the nearest of a triangle's corners: a point of weights x, y, z has measures from them whose mean, so weighted, is xy + yz + zx, at most a third

average : (x y z c t : ℕ) → 0 < x + y + z → c ≤ N * (y * y + y * z + z * z) + t → c ≤ N * (z * z + z * x + x * x) + t → c ≤ N * (x * x + x * y + y * y) + t
    → c ≤ N * (x * y + y * z + z * x) + t
average x y z c t d f g h =
    le_of_mul-le-mul_right {k = x + y + z} (omega (arith, mul-le-mul_right x f, mul-le-mul_right y g, mul-le-mul_right z h)) d

third : (x y z c t : ℕ) → c ≤ N * (x * y + y * z + z * x) + t → 3 * c ≤ N * ((x + y + z) * (x + y + z)) + 3 * t
third x y z c t h = omega (arith, cross x y, cross y z, cross z x)

-- the corner (a, b) is not nearer than c by more than d² / N
record Corner (n1 n2 d c a b : ℕ) : Type 0 where
  own : ℕ
  is : Is own n1 n2 (d * a) (d * b)
  near : N * c ≤ N * own + d * d

swap : {n1 n2 d c a b : ℕ} → Corner n1 n2 d c a b → Corner n2 n1 d c b a
swap k = record { own = k.own; is = omega (arith, k.is.sum); near = k.near }

-- where n2 ≤ n1: the triangle of (0, 0), (1, 0) and (1, 1)
below : (n1 n2 d c x y : ℕ) → d ≡ n1 + x → n1 ≡ n2 + y → 0 < d → Corner n1 n2 d c 0 0 → Corner n1 n2 d c 1 0 → Corner n1 n2 d c 1 1
    → 3 * (N * c) ≤ (N + 3) * (d * d)
below n1 n2 d c x y g f p a b k =
    let s : x + y + n2 ≡ d = omega arith in
    let e =
    average x y n2 (N * c) (d * d) (omega arith) (omega (arith, rw (g, f) at a.is, a.near)) (omega (arith, rw (g, f) at b.is, b.near))
    (omega (arith, rw (g, f) at k.is, k.near)) in
    omega (arith, rw s at (third x y n2 (N * c) (d * d) e))

-- ---- the theorem

module _ (m1 m2 n1 n2 d i j : ℕ) (low1 : n1 < d) (low2 : n2 < d) (h : Holds n1 n2 (d * i) (d * j) d) where
  abbrev first : ℕ
  first = m1 * d + n1

  abbrev second : ℕ
  second = m2 * d + n2

  chosen : Measured first second (d * (m1 + i)) (d * (m2 + j))
  chosen = measured first second (d * (m1 + i)) (d * (m2 + j))

  -- the hexagon moved by the whole parts
  moved : Holds first second (d * (m1 + i)) (d * (m2 + j)) d
  moved = record {
    i = omega (arith, h.i);
    i' = omega (arith, h.i');
    j = omega (arith, h.j);
    j' = omega (arith, h.j');
    ij = omega (arith, h.ij);
    ij' = omega (arith, h.ij');
  }

  none_nearer : (a b : ℤ) → Over chosen.c d (from_centre d first second a b)
  none_nearer a b = least first second (d * (m1 + i)) (d * (m2 + j)) d chosen.c moved chosen.is (step first (m1 + i) d a) (step second (m2 + j) d b)

  -- the corners of the square that the whole parts begin
  corner : (a b : ℕ) → Corner n1 n2 d chosen.c a b
  corner a b =
      let o = measured first second (d * (m1 + a)) (d * (m2 + b)) in
      record { own = o.c; is = omega (arith, o.is.sum); near = leb→le _ _ (rw o.of at (none_nearer (pos (m1 + a)) (pos (m2 + b)))).le }

  a_third : Sides n1 n2 → 3 * (N * chosen.c) ≤ (N + 3) * (d * d)
  a_third (Sides.first y f) = below n1 n2 d chosen.c (d - n1) y (omega arith) f (omega arith) (corner 0 0) (corner 1 0) (corner 1 1)
  a_third (Sides.last y f) = below n2 n1 d chosen.c (d - n2) y (omega arith) f (omega arith) (swap (corner 0 0)) (swap (corner 0 1)) (swap (corner 1 1))

  -- A point with the whole parts m1, m2 and the leftovers n1 / d, n2 / d, which the hexagon of (i, j) holds.
  pub nearest : Nearest d first second (pos (m1 + i)) (pos (m2 + j))
  nearest = record {
    close = rw chosen.of (le_z_yes (le→leb (3 * N * chosen.c) ((N + 3) * (d * d)) (omega (arith, a_third (sides n1 n2)))));
    least = λ a b. rw chosen.of (none_nearer a b);
  }
