-- A measure a² + b² - ab of whole numbers is one from 0 up, and which one. Assumes nothing.
use mathlib.Core.Path.{◌≡◌, sym, ap, ◌∙◌}
use Prim.Native.Nat.{ℕ, suc, ◌+◌, ◌-◌, ◌*◌, ◌≤◌}
use native.Mathlib.Omega.{arith}
use lib.IntN.{ℤ, pos, negsuc, neg_ℤ, neg_ℤ-neg_ℤ, ◌+ℤ◌, ◌-ℤ◌, ◌*ℤ◌}
use Rattle.coordijk.proofs.Differences.{View, view, diff_pos, diff_neg, Difference, of, difference}
use Rattle.vec2d.specs.Nearest.{measure, apart}
use Rattle.vec2d.proofs.Mirror.{twice_x, at}

-- one of two numbers is the other and some more
pub data Sides (x y : ℕ) : Type 0 where
  first : (k : ℕ) → x ≡ y + k → Sides x y
  last : (k : ℕ) → y ≡ x + k → Sides x y

pub sides : (x y : ℕ) → Sides x y
sides x y = go (view x y)
  where
    go : View x y → Sides x y
    go (View.up k c) = Sides.first k c
    go (View.down k c) = Sides.last (suc k) c

pub cross : (x y : ℕ) → 2 * (x * y) ≤ x * x + y * y
cross x y = go (sides x y)
  where
    go : Sides x y → 2 * (x * y) ≤ x * x + y * y
    go (Sides.first k h) = rw h (omega arith)
    go (Sides.last k h) = rw h (omega arith)

-- c is the measure of the point (m, n) from the centre (i, j), without a difference
pub record Is (c m n i j : ℕ) : Type 0 where
  pub sum : c + (2 * (m * i) + 2 * (n * j) + m * n + i * j) ≡ m * m + i * i + n * n + j * j + m * j + i * n

pub record Measured (m n i j : ℕ) : Type 0 where
  pub c : ℕ
  pub of : apart m n (pos i) (pos j) ≡ pos c
  pub is : Is c m n i j

-- of two numbers of one sign, and of two signs
like : (x y : ℕ) → pos (x * x + y * y) -ℤ pos (x * y) ≡ pos (x * x + y * y - x * y)
like x y = let c = cross x y in diff_pos (x * x + y * y) (x * y) (x * x + y * y - x * y) (omega arith)

unlike : (x y : ℕ) → pos (x * x + y * y) -ℤ neg_ℤ (pos (x * y)) ≡ pos (x * x + y * y + x * y)
unlike x y = ap (λ (z : ℤ). pos (x * x + y * y) +ℤ z) (neg_ℤ-neg_ℤ (pos (x * y)))

pub measured : (m n i j : ℕ) → Measured m n i j
measured m n i j = go (view m i) (view n j)
  where
    made : (z w : ℤ) (c : ℕ) → pos m -ℤ pos i ≡ z → pos n -ℤ pos j ≡ w → measure z w ≡ pos c → Is c m n i j → Measured m n i j
    made z w c f g h e = record { c = c; of = cc (f, g, h); is = e }

    go : View m i → View n j → Measured m n i j
    go (View.up x f) (View.up y g) = let c = cross x y in made (pos x) (pos y) _ (diff_pos m i x f) (diff_pos n j y g) (like x y) (rw (f, g) (omega arith))
    go (View.up x f) (View.down y g) = made (pos x) (negsuc y) _ (diff_pos m i x f) (diff_neg n j y g) (unlike x (suc y)) (rw (f, g) (omega arith))
    go (View.down x f) (View.up y g) = made (negsuc x) (pos y) _ (diff_neg m i x f) (diff_pos n j y g) (unlike (suc x) y) (rw (f, g) (omega arith))
    go (View.down x f) (View.down y g) = let c = cross (suc x) (suc y) in made (negsuc x) (negsuc y) _ (diff_neg m i x f) (diff_neg n j y g) (like (suc x) (suc y)) (rw (f, g) (omega arith))

-- ---- four times a measure is (2a - b)² + 3b²: at x = a - b/2 and y = b·sin 60° it is x² + y²

record Square (x y : ℕ) : Type 0 where
  c : ℕ
  of : (pos x -ℤ pos y) *ℤ (pos x -ℤ pos y) ≡ pos c
  is : c + 2 * (x * y) ≡ x * x + y * y

square : (x y : ℕ) → Square x y
square x y = go (view x y)
  where
    go : View x y → Square x y
    go (View.up k f) = record { c = k * k; of = ap (λ (z : ℤ). z *ℤ z) (diff_pos x y k f); is = rw f (omega arith) }
    go (View.down k f) = record { c = suc k * suc k; of = ap (λ (z : ℤ). z *ℤ z) (diff_neg x y k f); is = rw f (omega arith) }

pub squared_distance : (a b : ℤ) → pos 4 *ℤ measure a b ≡ twice_x a b *ℤ twice_x a b +ℤ pos 3 *ℤ (b *ℤ b)
squared_distance a b = go (difference a) (difference b)
  where
    go : Difference a → Difference b → pos 4 *ℤ measure a b ≡ twice_x a b *ℤ twice_x a b +ℤ pos 3 *ℤ (b *ℤ b)
    go (of m i p) (of n j q) =
        let c = measured m n i j in
        let x = square (2 * m + j) (2 * i + n) in
        let y = square n j in
        let e : 4 * c.c ≡ x.c + 3 * y.c = omega (arith, c.is.sum, x.is, y.is) in
        ap (λ (z : ℤ). pos 4 *ℤ z) ((λ t. measure (p t) (q t)) ∙ c.of)
        ∙ ap pos e
        ∙ sym ((λ t. at a b m i n j p q t *ℤ at a b m i n j p q t +ℤ pos 3 *ℤ (q t *ℤ q t)) ∙ (λ t. x.of t +ℤ pos 3 *ℤ y.of t))
