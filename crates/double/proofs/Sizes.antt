-- Sizes of rounded results: an operation on doubles that are at most so large gives a double that is at most so large, as long as the bound is at most 2^53.
-- So it gives no NaN and no infinity. Assumes nothing.
use mathlib.Core.Path.{◌≡◌, refl, sym, ap, ◌∙◌}
use mathlib.Core.Bool.{Bool, true, false, ◌&&◌, ◌||◌, cond, beq, true≢false, false≢true}
use Prim.Native.Nat.{ℕ, zero, suc, ◌+◌, ◌-◌, ◌*◌, ◌^◌, ◌≤◌, ◌<◌}
use native.Mathlib.Nat.{lt_irrefl, le_trans, le_of_eq, le_of_lt, mul-one, mul_comm, mul_assoc, mul_right_comm, mul-le-mul_left, mul-le-mul_right, add-mul, le_of_mul-le-mul_right, mul-pos, zero-lt-suc}
use native.Mathlib.Omega.{arith}
use lib.IntN.{pos}
use lib.Dec.{T, ltb, eqb, ltb→lt, eqb→eq, eqb-suc-zero, lit<}
use lib.Ieee.{Float, nan, inf, fin, binary64, up, down, unlike, odd, units, round, sum, add, sub, neg, mul, div, le, of_int}
use lib.Ieee.Fits.{down_pos, up_pos, round_is}
use lib.Ieee.Exact.{HasValue}
use lib.Ieee.Order.{round_mono}
use lib.Ieee.Back.{round_whole}
use lib.Ieee.Positive.{num, den}
use Rattle.double.specs.Double.{finite, size_of, mul_add_of}
use Rattle.double.specs.Sizes.{Under}

-- ---- rounding

-- The size of a rounded fraction is the fraction rounded without its sign.
odd_size : (s : Bool) (q k : ℕ) → size_of (odd 54 s q k 1074) ≡ odd 54 false q k 1074
unfolding odd
odd_size s zero k = refl
odd_size s (suc q) k = refl

units_size : (s : Bool) (q k : ℕ) → size_of (units binary64 s q k) ≡ units binary64 false q k
unfolding units
units_size s q k = go (ltb (q * 2 ^ k) (2 ^ 2098))
  where
    go : (b : Bool) → size_of (cond b (odd 54 s q k 1074) (inf s)) ≡ cond b (odd 54 false q k 1074) (inf false)
    go true = odd_size s q k
    go false = refl

pub round_size : (s : Bool) (a c : ℕ) → size_of (round binary64 s a c) ≡ round binary64 false a c
round_size s a c = ap size_of (round_is binary64 s a c) ∙ units_size s _ _ ∙ sym (round_is binary64 false a c)

-- What is known of a size is known of the number, and the other way round.
pub size_finite : (x : Float) → finite x ≡ true → finite (size_of x) ≡ true
size_finite nan f = f
size_finite (inf s) f = f
size_finite (fin s m e) f = f

pub of_size : (n : ℕ) (x : Float) → Under n (size_of x) → Under n x
of_size n nan p = p
of_size n (inf s) p = absurd (false≢true p.number)
of_size n (fin s m e) p = record { number = refl; size = p.size }

pub size_under : (n : ℕ) (x : Float) → Under n x → Under n (size_of x)
size_under n nan p = p
size_under n (inf s) p = absurd (false≢true p.number)
size_under n (fin s m e) p = record { number = refl; size = p.size }

pub le_of_test : (a b : ℕ) (t : Bool) → T (ltb a b || (eqb a b && t)) → a ≤ b
le_of_test a b t h = go (ltb a b) (eqb a b) (ltb→lt a b) (eqb→eq a b) h
  where
    go : (p q : Bool) → (T p → a < b) → (T q → a ≡ b) → T (p || (q && t)) → a ≤ b
    go true q f g h = le_of_lt (f tt)
    go false true f g h = le_of_eq (g tt)
    go false false f g h = absurd h

-- x / de is at most y / dd, and y / dd is n
pub cross : (x y n de dd : ℕ) → 0 < dd → x * dd ≤ y * de → y * 1 ≡ n * dd → x ≤ n * de
cross x y n de dd D h e =
    le_of_mul-le-mul_right (le_trans h (le_of_eq (ap (λ (z : ℕ). z * de) (sym (mul-one y) ∙ e) ∙ mul_right_comm n dd de))) D

-- A size that is at most a double whose value is n is at most n.
pub le_under : (n : ℕ) (x y : Float) → HasValue y false n 1 → T (le (size_of x) y) → Under n x
unfolding le
le_under n nan y v h = absurd h
le_under n (inf s) nan v h = absurd v
le_under n (inf s) (inf t) v h = absurd v
le_under n (inf s) (fin t k d) v h = absurd h
le_under n (fin s m e) nan v h = absurd v
le_under n (fin s m e) (inf t) v h = absurd v
le_under n (fin s m e) (fin true k d) v h = absurd (true≢false v.0)
le_under n (fin s m e) (fin false k d) v h =
    record { number = refl; size = cross (m * up e) (k * up d) n (down e) (down d) (down_pos d) (le_of_test _ _ true h) v.1 }

-- A fraction that is at most n rounds to a double that is at most n.
pub round_under : (s : Bool) (a c n : ℕ) → 0 < c → n ≤ 2 ^ 53 → a ≤ n * c → Under n (round binary64 s a c)
round_under s a c n C N h =
    le_under n (round binary64 s a c) (round binary64 false n 1) (round_whole binary64 false n N)
    (rw (round_size s a c) (round_mono binary64 a c n 1 C (lit< tt) (le_trans (le_of_eq (mul-one a)) h)))

pub under_le : (a b : ℕ) (x : Float) → a ≤ b → Under a x → Under b x
under_le a b x h p = record { number = p.number; size = le_trans p.size (mul-le-mul_right (den x) h) }

-- A whole number up to 2^53 is a double of its own size.
pub whole_under : (n : ℕ) → n ≤ 2 ^ 53 → Under n (of_int binary64 (pos n))
unfolding of_int
whole_under n N = round_under false n 1 n (lit< tt) N (omega arith)

-- ---- products

-- A number that is at most a, times a y whose size is at most b / a, is at most b.
pub product_under : (a b : ℕ) (x y : Float) → Under a x → finite y ≡ true → a * num y ≤ b * den y → b ≤ 2 ^ 53 → Under b (mul binary64 x y)
unfolding mul
product_under a b nan y p q h N = absurd (false≢true p.number)
product_under a b (inf s) y p q h N = absurd (false≢true p.number)
product_under a b (fin s m e) nan p q h N = absurd (false≢true q)
product_under a b (fin s m e) (inf t) p q h N = absurd (false≢true q)
product_under a b (fin s m e) (fin t n d) p q h N =
    round_under (unlike s t) (m * up e * (n * up d)) (down e * down d) b (mul-pos (down_pos e) (down_pos d)) N
    (le_trans (mul-le-mul_right (n * up d) p.size)
    (le_trans (le_of_eq (mul_right_comm a (down e) (n * up d)))
    (le_trans (mul-le-mul_right (down e) h) (le_of_eq (mul_assoc b (down d) (down e) ∙ ap (λ (z : ℕ). b * z) (mul_comm (down d) (down e)))))))

pub mul_under : (a b : ℕ) (x y : Float) → Under a x → Under b y → a * b ≤ 2 ^ 53 → Under (a * b) (mul binary64 x y)
mul_under a b x y p q N =
    product_under a (a * b) x y p q.number (le_trans (mul-le-mul_left a q.size) (le_of_eq (sym (mul_assoc a b (den y))))) N

-- ---- sums and differences

either : {A : Type 0} (P : A → Type 0) (b : Bool) {x y : A} → P x → P y → P (cond b x y)
either P true p q = p
either P false p q = q

sum_under : (s t : Bool) (m n c a b : ℕ) → 0 < c → m ≤ a * c → n ≤ b * c → a + b ≤ 2 ^ 53 → Under (a + b) (sum binary64 s m t n c)
unfolding sum
sum_under s t m n c a b C p q h =
    let top : m + n ≤ (a + b) * c = rw add-mul (omega arith) in
    let at : (r : Bool) (k : ℕ) → k ≤ m + n → Under (a + b) (round binary64 r k c) = λ r k l. round_under r k c (a + b) C h (le_trans l top) in
    either (Under (a + b)) (beq s t) (at s (m + n) (omega arith))
    (either (Under (a + b)) (ltb m n) (at t (n - m) (omega arith)) (at (s && ltb n m) (m - n) (omega arith)))

pub add_under : (a b : ℕ) (x y : Float) → Under a x → Under b y → a + b ≤ 2 ^ 53 → Under (a + b) (add binary64 x y)
unfolding add
add_under a b nan y p q h = absurd (false≢true p.number)
add_under a b (inf s) y p q h = absurd (false≢true p.number)
add_under a b (fin s m e) nan p q h = absurd (false≢true q.number)
add_under a b (fin s m e) (inf t) p q h = absurd (false≢true q.number)
add_under a b (fin s m e) (fin t n d) p q h =
    sum_under s t _ _ (down e * down d) a b (mul-pos (down_pos e) (down_pos d))
    (le_trans (mul-le-mul_right (down d) p.size) (le_of_eq (mul_assoc a (down e) (down d))))
    (le_trans (mul-le-mul_right (down e) q.size) (le_of_eq (mul_assoc b (down d) (down e) ∙ ap (λ (z : ℕ). b * z) (mul_comm (down d) (down e))))) h

pub neg_under : (b : ℕ) (y : Float) → Under b y → Under b (neg y)
unfolding neg
neg_under b nan q = q
neg_under b (inf t) q = absurd (false≢true q.number)
neg_under b (fin t n d) q = record { number = refl; size = q.size }

pub sub_under : (a b : ℕ) (x y : Float) → Under a x → Under b y → a + b ≤ 2 ^ 53 → Under (a + b) (sub binary64 x y)
unfolding sub
sub_under a b x y p q h = add_under a b x (neg y) p (neg_under b y q) h

-- The paper's product with a sum.
pub mul_add_under : (a b c : ℕ) (x y z : Float) → Under a x → Under b y → Under c z → a * b + c ≤ 2 ^ 53 → Under (a * b + c) (mul_add_of x y z)
unfolding mul_add_of
mul_add_under a b c x y z p q r h = add_under (a * b) c (mul binary64 x y) z (mul_under a b x y p q (omega arith)) r h

-- ---- quotients

pub none_above : {A : Type 0} (u : ℕ) → 0 < zero * u → A
none_above u h = absurd (lt_irrefl 0 (omega arith))

-- A number that is at most a, over a y whose size is at least a / b and not zero, is at most b.
pub quotient_under : (a b : ℕ) (x y : Float) → Under a x → finite y ≡ true → 0 < num y → a * den y ≤ b * num y → b ≤ 2 ^ 53 → Under b (div binary64 x y)
unfolding div
quotient_under a b nan y p q o h N = absurd (false≢true p.number)
quotient_under a b (inf s) y p q o h N = absurd (false≢true p.number)
quotient_under a b (fin s m e) nan p q o h N = absurd (false≢true q)
quotient_under a b (fin s m e) (inf t) p q o h N = absurd (false≢true q)
quotient_under a b (fin s m e) (fin t zero d) p q o h N = none_above (up d) o
quotient_under a b (fin s m e) (fin t (suc n) d) p q o h N =
    rw eqb-suc-zero
    (round_under (unlike s t) (m * up e * down d) (suc n * up d * down e) b (mul-pos (mul-pos (zero-lt-suc n) (up_pos d)) (down_pos e)) N
    (le_trans (mul-le-mul_right (down d) p.size)
    (le_trans (le_of_eq (mul_right_comm a (down e) (down d)))
    (le_trans (mul-le-mul_right (down e) h) (le_of_eq (mul_assoc b (suc n * up d) (down e)))))))
