-- Where a product is exact, a · b + c has the same bits rounded once and twice; and doubling is exact. Assumes nothing.
use mathlib.Core.Path.{◌≡◌, refl, sym, ap, ◌∙◌, subst}
use mathlib.Core.Bool.{Bool, true, false, ◌&&◌, cond, beq, false≢true}
use Prim.Native.Nat.{ℕ, suc, ◌+◌, ◌-◌, ◌*◌, ◌^◌, ◌≤◌, ◌<◌}
use native.Mathlib.Nat.{mul-pos, mul_assoc, mul_comm, mul-one, one-mul, mul-sub, add-mul, mul-lt-mul_of_pos_right, lt_of_mul-lt-mul_right, lt_of_lt_of_le, lt_of_not-le, not-le_of_lt, mul-le-mul_right}
use native.Mathlib.Decide.{dec_le}
use native.Mathlib.Omega.{arith}
use borrow.Author.Tests.{lt-ltb, le-ltb}
use lib.IntN.{ℤ, pos, negsuc}
use lib.Dec.{T, ltb, lit<, lit≤}
use lib.Pow.{pow-add, pow_pos, pow_mono, shl_lt}
use lib.Ieee.{Float, nan, inf, fin, binary64, up, down, unlike, fits, round, sum, add, mul, of_bits}
use lib.Ieee.Digits.{back}
use lib.Ieee.Fits.{down_pos}
use lib.Ieee.Exact.{HasValue, round_exact}
use lib.Ieee.Positive.{num, den}
use lib.Ieee.Scale.{round_same}
use Rattle.double.specs.Double.{finite, nought, two, mul_add_of, mul_add_once}
use Rattle.double.proofs.Left.{pow_le_back, fits_digits}

-- ---- a sum does not turn on the divisor it is written over

lower : (a b c a' b' c' : ℕ) → 0 < c' → a * c' ≡ a' * c → b * c' ≡ b' * c → a < b → a' < b'
lower a b c a' b' c' C' p q h =
    lt_of_mul-lt-mul_right c (subst (λ (z : ℕ). z < b' * c) p (subst (λ (z : ℕ). a * c' < z) q (mul-lt-mul_of_pos_right h C')))

less : (a b c a' b' c' : ℕ) → a * c' ≡ a' * c → b * c' ≡ b' * c → (b - a) * c' ≡ (b' - a') * c
less a b c a' b' c' p q =
    let x : c' * a ≡ c * a' = mul_comm c' a ∙ p ∙ mul_comm a' c in
    let y : c' * b ≡ c * b' = mul_comm c' b ∙ q ∙ mul_comm b' c in
    mul_comm (b - a) c' ∙ mul-sub c' b a ∙ (λ n. y n - x n) ∙ sym (mul-sub c b' a') ∙ mul_comm c (b' - a')

test : (a b c a' b' c' : ℕ) → 0 < c → 0 < c' → a * c' ≡ a' * c → b * c' ≡ b' * c → ltb a b ≡ ltb a' b'
test a b c a' b' c' C C' p q =
    elim (dec_le b a) [
      | yes h ↦ le-ltb a b h ∙ sym (le-ltb a' b' (back_le h))
      | no h ↦ let l = lt_of_not-le h in lt-ltb a b l ∙ sym (lt-ltb a' b' (lower a b c a' b' c' C' p q l))
    ]
  where
    back_le : b ≤ a → b' ≤ a'
    back_le h = elim (dec_le b' a') [ yes g ↦ g | no g ↦ absurd (not-le_of_lt (lower a' b' c' a b c C (sym p) (sym q) (lt_of_not-le g)) h) ]

pub sum_same : (s t : Bool) (a b c a' b' c' : ℕ) → 0 < c → 0 < c' → a * c' ≡ a' * c → b * c' ≡ b' * c → sum binary64 s a t b c ≡ sum binary64 s a' t b' c'
unfolding sum
sum_same s t a b c a' b' c' C C' p q =
    let plus = round_same binary64 s (a + b) c (a' + b') c' C C' (add-mul a b c' ∙ (λ n. p n + q n) ∙ sym (add-mul a' b' c)) in
    let under = round_same binary64 t (b - a) c (b' - a') c' C C' (less a b c a' b' c' p q) in
    let x = test a b c a' b' c' C C' p q in
    let y = test b a c b' a' c' C C' q p in
    let over = ap (λ (r : Bool). round binary64 (s && r) (a - b) c) y ∙ round_same binary64 (s && ltb b' a') (a - b) c (a' - b') c' C C' (less b a c b' a' c' q p) in
    λ n. cond (beq s t) (plus n) (cond (x n) (under n) (over n))

-- ---- an exact product

-- Where the product is exact, a · b + c is the same rounded once and twice.
pub once : (s t : Bool) (m n : ℕ) (e d : ℤ) (c : Float) → finite c ≡ true
    → HasValue (mul binary64 (fin s m e) (fin t n d)) (unlike s t) (m * up e * (n * up d)) (down e * down d)
    → mul_add_once (fin s m e) (fin t n d) c ≡ mul_add_of (fin s m e) (fin t n d) c
unfolding mul_add_once mul_add_of add
once s t m n e d nan f v = absurd (false≢true f)
once s t m n e d (inf u) f v = absurd (false≢true f)
once s t m n e d (fin u k g) f v = go (mul binary64 (fin s m e) (fin t n d)) (unlike s t) (m * up e * (n * up d)) (down e * down d) (mul-pos (down_pos e) (down_pos d)) v
  where
    left : (P D G X F : ℕ) → X * D ≡ P * F → P * G * (F * G) ≡ X * G * (D * G)
    left P D G X F h = omega (arith, ap (λ (z : ℕ). z * G * G) h)

    right : (K D G F : ℕ) → K * D * (F * G) ≡ K * F * (D * G)
    right K D G F = omega arith

    go : (x : Float) (r : Bool) (P D : ℕ) → 0 < D → HasValue x r P D → sum binary64 r (P * down g) u (k * up g * D) (D * down g) ≡ add binary64 x (fin u k g)
    go nan r P D pos-D w = absurd w
    go (inf z) r P D pos-D w = absurd w
    go (fin z M E) r P D pos-D w =
        ap (λ (b : Bool). sum binary64 b (P * down g) u (k * up g * D) (D * down g)) (sym w.0)
        ∙ sum_same z u _ _ _ _ _ _ (mul-pos pos-D (down_pos g)) (mul-pos (down_pos E) (down_pos g)) (left P D (down g) (M * up E) (down E) w.1) (right (k * up g) D (down g) (down E))

-- ---- doubling

alone : (s : Bool) → unlike false s ≡ s
alone true = refl
alone false = refl

unit : (x : ℕ) → 2 * x * 2 ^ 1074 ≡ x * 2 ^ 1075
unit x = ap (λ (z : ℕ). z * 2 ^ 1074) (mul_comm 2 x) ∙ mul_assoc x 2 (2 ^ 1074)

-- from 2^0 up, by the bound on the number; below, by its digits
above : (s : Bool) (m k : ℕ) → m < 2 ^ 53 → m * 2 ^ k < 2 ^ 1023 → HasValue (round binary64 s (2 * (m * 2 ^ k)) 1) s (2 * (m * 2 ^ k)) 1
above s m k a h =
    let e : m * 2 ^ (k + 1075) ≡ m * 2 ^ k * 2 ^ 1075 = ap (λ (z : ℕ). m * z) (pow-add 2 k 1075) ∙ sym (mul_assoc m (2 ^ k) (2 ^ 1075)) in
    round_exact binary64 s (2 * (m * 2 ^ k)) 1 m (k + 1075) (lit< tt) a (subst (λ (z : ℕ). z < 2 ^ 2098) (sym e) (shl_lt 1023 1075 h))
    (unit (m * 2 ^ k) ∙ sym e ∙ sym (mul-one _))

below : (s : Bool) (m k : ℕ) → m < 2 ^ 53 → 2 ^ suc k ≤ 2 ^ 1074 → HasValue (round binary64 s (2 * m) (2 ^ suc k)) s (2 * m) (2 ^ suc k)
below s m k a h =
    let fine : suc k ≤ 1074 = pow_le_back (suc k) 1074 h in
    let j = 1075 - suc k in
    let room : 53 + j ≤ 2098 = omega arith in
    let e : 2 ^ 1075 ≡ 2 ^ j * 2 ^ suc k = ap (λ (n : ℕ). 2 ^ n) (sym (back 1075 (suc k) (omega arith))) ∙ pow-add 2 j (suc k) in
    round_exact binary64 s (2 * m) (2 ^ suc k) m j (pow_pos (suc k)) a (lt_of_lt_of_le (shl_lt 53 j a) (pow_mono room))
    (unit m ∙ ap (λ (z : ℕ). m * z) e ∙ sym (mul_assoc m (2 ^ j) (2 ^ suc k)))

rounded : (s : Bool) (m : ℕ) (e : ℤ) → T (fits binary64 (fin s m e)) → m * up e < 2 ^ 1023 * down e
    → HasValue (round binary64 s (2 * (m * up e)) (down e)) s (2 * (m * up e)) (down e)
rounded s m (pos k) f h = above s m k (fits_digits s m (pos k) f).0 h
rounded s m (negsuc k) f h = let d = fits_digits s m (negsuc k) f in rw mul-one (below s m k d.0 d.1)

-- 2 by its digits
abbrev written : Float
written = fin false 1 (pos 1)

two_is : two ≡ written
unfolding of_bits
two_is = refl

product : (s : Bool) (m : ℕ) (e : ℤ) → mul binary64 written (fin s m e) ≡ round binary64 s (2 * (m * up e)) (down e)
unfolding mul
product s m e = λ n. round binary64 (alone s n) (2 * (m * up e)) (one-mul (down e) n)

-- Doubling is exact: twice a finite number of the format below 2^1023 has exactly twice its value.
pub doubled : (s : Bool) (m : ℕ) (e : ℤ) → T (fits binary64 (fin s m e)) → m * up e < 2 ^ 1023 * down e
    → HasValue (mul binary64 two (fin s m e)) s (2 * (m * up e)) (down e)
doubled s m e f h = rw (two_is, product) (rounded s m e f h)

-- So 2 · r + c is the same rounded once and twice.
pub doubled_once : (r c : Float) → T (fits binary64 r) → finite r ≡ true → num r < 2 ^ 1023 * den r → finite c ≡ true → mul_add_once two r c ≡ mul_add_of two r c
doubled_once nan c f n h g = absurd (false≢true n)
doubled_once (inf s) c f n h g = absurd (false≢true n)
doubled_once (fin s m e) c f n h g = rw two_is (once false s 1 m (pos 1) e c g (rw (alone s, one-mul (down e), product) (rounded s m e f h)))

-- As it is of every r from 0 up below 1, a leftover for one: the fraction a / d is its value.
pub unit_once : (r c : Float) (a d : ℕ) → T (fits binary64 r) → HasValue r false a d → a < d → finite c ≡ true → mul_add_once two r c ≡ mul_add_of two r c
unit_once nan c a d f v h g = absurd v
unit_once (inf s) c a d f v h g = absurd v
unit_once (fin s m e) c a d f v h g = doubled_once (fin s m e) c f refl (lt_of_lt_of_le low room) g
  where
    low : m * up e < down e
    low = lt_of_mul-lt-mul_right d (subst (λ (z : ℕ). z < down e * d) (sym v.1) (subst (λ (z : ℕ). a * down e < z) (mul_comm d (down e)) (mul-lt-mul_of_pos_right h (down_pos e))))

    room : down e ≤ 2 ^ 1023 * down e
    room = subst (λ (z : ℕ). z ≤ 2 ^ 1023 * down e) (one-mul (down e)) (mul-le-mul_right (down e) (lit≤ tt))

-- Elsewhere the two differ: the square of 1 + 2^-52, less 1 + 2^-51, is 2^-104 rounded once and 0 rounded twice.
abbrev next : Float
next = of_bits binary64 0x3ff0_0000_0000_0001

abbrev off : Float
off = of_bits binary64 0xbff0_0000_0000_0002

pub elsewhere : (mul_add_once next next off ≡ of_bits binary64 0x3970_0000_0000_0000) × (mul_add_of next next off ≡ nought)
unfolding of_bits mul_add_once mul_add_of mul add sum round
elsewhere = (refl, refl)
