-- Why the folds are as they are: they are mirror images. Assumes nothing.
use mathlib.Core.Path.{◌≡◌, refl, sym, ap, ◌∙◌}
use mathlib.Core.Bool.{Bool, true, false}
use Prim.Native.Nat.{ℕ, ◌+◌, ◌*◌}
use native.Mathlib.Omega.{arith}
use lib.IntN.{ℤ, pos, neg_ℤ, ◌-ℤ◌, ◌*ℤ◌}
use Rattle.reply.specs.Choice.{pick}
use Rattle.coordijk.proofs.Differences.{Difference, of, difference, same, times, minus, turned}
use Rattle.vec2d.specs.Rounding.{folded}

-- twice the x of the centre of i, j
abbrev pub twice_x : ℤ → ℤ → ℤ
twice_x i j = pos 2 *ℤ i -ℤ j

-- the same of two differences
pub at : (i j : ℤ) (a b c d : ℕ) → i ≡ pos a -ℤ pos b → j ≡ pos c -ℤ pos d → twice_x i j ≡ pos (2 * a + d) -ℤ pos (2 * b + c)
at i j a b c d p q = (λ n. pos 2 *ℤ p n -ℤ q n) ∙ ap (λ (z : ℤ). z -ℤ (pos c -ℤ pos d)) (times 2 a b) ∙ minus (2 * a) (2 * b) c d

left_mirrors : (i j : ℤ) → twice_x (j -ℤ i) j ≡ neg_ℤ (twice_x i j)
left_mirrors i j = go (difference i) (difference j)
  where
    go : Difference i → Difference j → twice_x (j -ℤ i) j ≡ neg_ℤ (twice_x i j)
    go (of a b p) (of c d q) =
        at (j -ℤ i) j (c + b) (d + a) c d ((λ n. q n -ℤ p n) ∙ minus c d a b) q
        ∙ same (2 * (c + b) + d) (2 * (d + a) + c) (2 * b + c) (2 * a + d) (omega arith)
        ∙ sym (ap neg_ℤ (at i j a b c d p q) ∙ turned (2 * a + d) (2 * b + c))

down_keeps : (i j : ℤ) → twice_x (i -ℤ j) (neg_ℤ j) ≡ twice_x i j
down_keeps i j = go (difference i) (difference j)
  where
    go : Difference i → Difference j → twice_x (i -ℤ j) (neg_ℤ j) ≡ twice_x i j
    go (of a b p) (of c d q) =
        at (i -ℤ j) (neg_ℤ j) (a + d) (b + c) d c ((λ n. p n -ℤ q n) ∙ minus a b c d) (ap neg_ℤ q ∙ turned c d)
        ∙ same (2 * (a + d) + c) (2 * (b + c) + d) (2 * a + d) (2 * b + c) (omega arith)
        ∙ sym (at i j a b c d p q)

-- x changes its sign with the fold for x < 0 and stays with that for y < 0; y, which goes by j, the other way round, by definition.
pub mirrored : (l d : Bool) (i j : ℤ) → twice_x (folded l d i j).i (folded l d i j).j ≡ pick l (neg_ℤ (twice_x i j)) (twice_x i j)
mirrored false false i j = refl
mirrored true false i j = left_mirrors i j
mirrored false true i j = down_keeps i j
mirrored true true i j = down_keeps (j -ℤ i) j ∙ left_mirrors i j
