-- Laws of Q, the squared distance from the face's centre. Assumes nothing.
use mathlib.Core.Path.{◌≡◌, sym, ◌∙◌, subst}
use Prim.Native.Nat.{ℕ, ◌+◌, ◌-◌, ◌*◌, ◌≤◌}
use native.Mathlib.Decide.{dec_le}
use native.Mathlib.Omega.{arith}
use Rattle.coordijk.specs.Coordinates.{least, norm, reduced, Q}

-- twice a product is at most the sum of the squares
twice_up : (a b : ℕ) → a ≤ b → 2 * (a * b) ≤ a * a + b * b
twice_up a b h =
    let grow : (d : ℕ) → 2 * (a * (a + d)) ≤ a * a + (a + d) * (a + d) = λ d. omega arith in
    let e : a + (b - a) ≡ b = omega arith in
    subst (λ (t : ℕ). 2 * (a * t) ≤ a * a + t * t) e (grow (b - a))

twice : (a b : ℕ) → 2 * (a * b) ≤ a * a + b * b
twice a b = elim (dec_le a b) [ yes h ↦ twice_up a b h | no h ↦ omega (arith, twice_up b a (omega arith)) ]

-- the squares outweigh the products, so that Q's difference is never cut off at 0
pub outweigh : (a b c : ℕ) → a * b + b * c + c * a ≤ a * a + b * b + c * c
outweigh a b c = omega (arith, twice a b, twice b c, twice c a)

norm_shift : (l a b c : ℕ) → norm (a + l) (b + l) (c + l) ≡ norm a b c
norm_shift l a b c = omega arith

-- reducing keeps the distance
pub Q_reduced : (a b c : ℕ) → Q (reduced a b c) ≡ norm a b c
unfolding Q reduced
Q_reduced a b c =
    let l = least a b c in
    let x : a - l + l ≡ a = omega arith in
    let y : b - l + l ≡ b = omega arith in
    let z : c - l + l ≡ c = omega arith in
    sym (norm_shift l _ _ _) ∙ (λ n. norm (x n) (y n) (z n))
