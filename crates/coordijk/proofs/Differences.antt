-- A difference of two natural numbers over ℤ, read by its value, and what each operation does to it. Assumes nothing.
use mathlib.Core.Path.{◌≡◌, refl, sym, ap, ◌∙◌}
use mathlib.Core.Bool.{Bool, true, false, not, cond}
use Prim.Native.Nat.{ℕ, zero, suc, ◌+◌, ◌-◌, ◌*◌, ◌≤◌, ◌<◌}
use native.Mathlib.Omega.{arith}
use lib.IntN.{ℤ, pos, negsuc, neg_ℤ, ◌+ℤ◌, ◌-ℤ◌, ◌*ℤ◌}
use native.Mathlib.Nat.{lt_of_not-le}
use native.Mathlib.Decide.{dec_le}
use lib.Signed.{le_z}
use lib.Dec.{T, ltb, leb, ltb→lt, nltb→le}
use borrow.Author.Tests.{le-leb, lt-leb}

by_test : {X : Type 0} (b : Bool) (x y z : X) → (T b → x ≡ z) → (T (not b) → y ≡ z) → cond b x y ≡ z
by_test true x y z f g = f tt
by_test false x y z f g = g tt

-- ---- a - b, by its value

pub diff_pos : (a b n : ℕ) → a ≡ b + n → pos a -ℤ pos b ≡ pos n
diff_pos a zero n e = ap pos (plain a n e)
  where
    plain : (a n : ℕ) → a ≡ 0 + n → a + 0 ≡ n
    plain a n e = omega arith
diff_pos a (suc b) n e =
    by_test (ltb a (suc b)) (negsuc (suc b - suc a)) (pos (a - suc b)) (pos n)
    (λ t. absurd (no a b n e (ltb→lt a (suc b) t))) (λ t. ap pos (yes a b n e))
  where
    no : (a b n : ℕ) → a ≡ suc b + n → a < suc b → ⊥
    no a b n e h = omega arith

    yes : (a b n : ℕ) → a ≡ suc b + n → a - suc b ≡ n
    yes a b n e = omega arith

pub diff_neg : (a b n : ℕ) → b ≡ a + suc n → pos a -ℤ pos b ≡ negsuc n
diff_neg a zero n e = absurd (none a n e)
  where
    none : (a n : ℕ) → 0 ≡ a + suc n → ⊥
    none a n e = omega arith
diff_neg a (suc b) n e =
    by_test (ltb a (suc b)) (negsuc (suc b - suc a)) (pos (a - suc b)) (negsuc n)
    (λ t. ap negsuc (yes a b n e)) (λ t. absurd (no a b n e (nltb→le a (suc b) t)))
  where
    no : (a b n : ℕ) → suc b ≡ a + suc n → suc b ≤ a → ⊥
    no a b n e h = omega arith

    yes : (a b n : ℕ) → suc b ≡ a + suc n → suc b - suc a ≡ n
    yes a b n e = omega arith

-- either a = b + n, or b = a + n + 1
pub data View (a b : ℕ) : Type 0 where
  up : (n : ℕ) → a ≡ b + n → View a b
  down : (n : ℕ) → b ≡ a + suc n → View a b

pub view : (a b : ℕ) → View a b
view a b = go (ltb a b) (ltb→lt a b) (nltb→le a b)
  where
    go : (t : Bool) → (T t → a < b) → (T (not t) → b ≤ a) → View a b
    go true f g = let h = f tt in down (b - suc a) (omega arith)
    go false f g = let h = g tt in up (a - b) (omega arith)

-- ---- what each operation does to a difference

pub same : (a b c d : ℕ) → a + d ≡ c + b → pos a -ℤ pos b ≡ pos c -ℤ pos d
same a b c d e = go (view a b)
  where
    go : View a b → pos a -ℤ pos b ≡ pos c -ℤ pos d
    go (up n p) = diff_pos a b n p ∙ sym (diff_pos c d n (omega arith))
    go (down n p) = diff_neg a b n p ∙ sym (diff_neg c d n (omega arith))

-- 0 - n
pub from_nought : (n : ℕ) → pos 0 -ℤ pos n ≡ neg_ℤ (pos n)
from_nought zero = refl
from_nought (suc n) = diff_neg 0 (suc n) n (omega arith)

pub times : (k a b : ℕ) → pos k *ℤ (pos a -ℤ pos b) ≡ pos (k * a) -ℤ pos (k * b)
times k a b = go (view a b)
  where
    go : View a b → pos k *ℤ (pos a -ℤ pos b) ≡ pos (k * a) -ℤ pos (k * b)
    go (up n p) = ap (λ (z : ℤ). pos k *ℤ z) (diff_pos a b n p) ∙ sym (diff_pos (k * a) (k * b) (k * n) (omega (arith, ap (λ (z : ℕ). k * z) p)))
    go (down n p) = ap (λ (z : ℤ). pos k *ℤ z) (diff_neg a b n p) ∙ sym (from_nought (k * suc n)) ∙ same 0 (k * suc n) (k * a) (k * b) (omega (arith, ap (λ (z : ℕ). k * z) p))

pub plus : (a b c : ℕ) → (pos a -ℤ pos b) +ℤ pos c ≡ pos (a + c) -ℤ pos b
plus a b c = go (view a b)
  where
    go : View a b → (pos a -ℤ pos b) +ℤ pos c ≡ pos (a + c) -ℤ pos b
    go (up n p) = ap (λ (z : ℤ). z +ℤ pos c) (diff_pos a b n p) ∙ sym (diff_pos (a + c) b (n + c) (omega arith))
    go (down n p) = ap (λ (z : ℤ). z +ℤ pos c) (diff_neg a b n p) ∙ same c (suc n) (a + c) b (omega arith)

pub less : (a b c : ℕ) → (pos a -ℤ pos b) -ℤ pos c ≡ pos a -ℤ pos (b + c)
less a b c = go c (view a b)
  where
    go : (c : ℕ) → View a b → (pos a -ℤ pos b) -ℤ pos c ≡ pos a -ℤ pos (b + c)
    go c (up n p) = ap (λ (z : ℤ). z -ℤ pos c) (diff_pos a b n p) ∙ same n c a (b + c) (omega arith)
    go zero (down n p) = ap (λ (z : ℤ). z -ℤ pos 0) (diff_neg a b n p) ∙ same 0 (suc n) a (b + 0) (omega arith)
    go (suc c) (down n p) = ap (λ (z : ℤ). z -ℤ pos (suc c)) (diff_neg a b n p) ∙ sym (diff_neg a (b + suc c) (suc (n + c)) (omega arith))

pub sum : (a b c d : ℕ) → (pos a -ℤ pos b) +ℤ (pos c -ℤ pos d) ≡ pos (a + c) -ℤ pos (b + d)
sum a b c d = go (view c d)
  where
    go : View c d → (pos a -ℤ pos b) +ℤ (pos c -ℤ pos d) ≡ pos (a + c) -ℤ pos (b + d)
    go (up n p) = ap (λ (z : ℤ). (pos a -ℤ pos b) +ℤ z) (diff_pos c d n p) ∙ plus a b n ∙ same (a + n) b (a + c) (b + d) (omega arith)
    go (down n p) = ap (λ (z : ℤ). (pos a -ℤ pos b) +ℤ z) (diff_neg c d n p) ∙ less a b (suc n) ∙ same a (b + suc n) (a + c) (b + d) (omega arith)

pub minus : (a b c d : ℕ) → (pos a -ℤ pos b) -ℤ (pos c -ℤ pos d) ≡ pos (a + d) -ℤ pos (b + c)
minus a b c d = go (view c d)
  where
    go : View c d → (pos a -ℤ pos b) -ℤ (pos c -ℤ pos d) ≡ pos (a + d) -ℤ pos (b + c)
    go (up n p) = ap (λ (z : ℤ). (pos a -ℤ pos b) -ℤ z) (diff_pos c d n p) ∙ less a b n ∙ same a (b + n) (a + d) (b + c) (omega arith)
    go (down n p) = ap (λ (z : ℤ). (pos a -ℤ pos b) -ℤ z) (diff_neg c d n p) ∙ plus a b (suc n) ∙ same (a + suc n) b (a + d) (b + c) (omega arith)

pub turned : (a b : ℕ) → neg_ℤ (pos a -ℤ pos b) ≡ pos b -ℤ pos a
turned a b = go (view a b)
  where
    go : View a b → neg_ℤ (pos a -ℤ pos b) ≡ pos b -ℤ pos a
    go (up n p) = ap neg_ℤ (diff_pos a b n p) ∙ sym (from_nought n) ∙ same 0 n b a (omega arith)
    go (down n p) = ap neg_ℤ (diff_neg a b n p) ∙ sym (diff_pos b a (suc n) p)

-- every number with sign is a difference
pub data Difference (z : ℤ) : Type 0 where
  of : (a b : ℕ) → z ≡ pos a -ℤ pos b → Difference z

pub difference : (z : ℤ) → Difference z
difference (pos n) = of n 0 (sym (diff_pos n 0 n (omega arith)))
difference (negsuc n) = of 0 (suc n) (sym (diff_neg 0 (suc n) n (omega arith)))

-- a row of a table applied to differences
pub line : (p q r a a' b b' c c' : ℕ)
    → pos p *ℤ (pos a -ℤ pos a') +ℤ pos q *ℤ (pos b -ℤ pos b') +ℤ pos r *ℤ (pos c -ℤ pos c') ≡ pos (p * a + q * b + r * c) -ℤ pos (p * a' + q * b' + r * c')
line p q r a a' b b' c c' =
    (λ n. times p a a' n +ℤ times q b b' n +ℤ times r c c' n)
    ∙ ap (λ (z : ℤ). z +ℤ (pos (r * c) -ℤ pos (r * c'))) (sum (p * a) (p * a') (q * b) (q * b'))
    ∙ sum (p * a + q * b) (p * a' + q * b') (r * c) (r * c')

-- with one number taken off both, a test and a difference are those of the numbers
pub order : (a b d : ℕ) → le_z (pos a -ℤ pos d) (pos b -ℤ pos d) ≡ leb a b
order a b d = go (view a d) (view b d)
  where
    by : (x y : ℤ) → pos a -ℤ pos d ≡ x → pos b -ℤ pos d ≡ y → le_z x y ≡ leb a b → le_z (pos a -ℤ pos d) (pos b -ℤ pos d) ≡ leb a b
    by x y p q e = rw (p, q) e

    alike : (x y : ℕ) → (x ≤ y → a ≤ b) → (y < x → b < a) → leb x y ≡ leb a b
    alike x y f g =
        elim (dec_le x y) [ yes h ↦ le-leb x y h ∙ sym (le-leb a b (f h)) | no h ↦ lt-leb x y (lt_of_not-le h) ∙ sym (lt-leb a b (g (lt_of_not-le h))) ]

    go : View a d → View b d → le_z (pos a -ℤ pos d) (pos b -ℤ pos d) ≡ leb a b
    go (up n p) (up m q) = by (pos n) (pos m) (diff_pos a d n p) (diff_pos b d m q) (alike n m (λ h. omega arith) (λ h. omega arith))
    go (up n p) (down m q) = by (pos n) (negsuc m) (diff_pos a d n p) (diff_neg b d m q) (sym (lt-leb a b (omega arith)))
    go (down n p) (up m q) = by (negsuc n) (pos m) (diff_neg a d n p) (diff_pos b d m q) (sym (le-leb a b (omega arith)))
    go (down n p) (down m q) = by (negsuc n) (negsuc m) (diff_neg a d n p) (diff_neg b d m q) (alike m n (λ h. omega arith) (λ h. omega arith))

pub apart : (a l d : ℕ) → l ≤ a → (pos a -ℤ pos d) -ℤ (pos l -ℤ pos d) ≡ pos (a - l)
apart a l d h = minus a d l d ∙ diff_pos (a + d) (d + l) (a - l) (omega arith)
