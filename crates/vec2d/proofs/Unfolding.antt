-- The folds undo themselves: a hexagon's i - k and j - k, folded again, are the two numbers that were folded. Assumes nothing.
use mathlib.Core.Path.{◌≡◌, ap, ◌∙◌}
use mathlib.Core.Bool.{Bool, true, false}
use Prim.Native.Nat.{ℕ, ◌+◌, ◌-◌}
use native.Mathlib.Omega.{arith}
use lib.IntN.{ℤ, pos, ◌-ℤ◌}
use Rattle.coordijk.specs.Coordinates.{least, reduced}
use Rattle.coordijk.proofs.Differences.{diff_pos, same, minus, turned}
use Rattle.vec2d.specs.Rounding.{folded, fold_of}
use Rattle.vec2d.proofs.Folding.{lifted_of, lifted}

-- Folding z and w gives i and j back.
pub record Undone (l d : Bool) (z w : ℤ) (i j : ℕ) : Type 0 where
  pub first : (folded l d z w).i ≡ pos i
  pub second : (folded l d z w).j ≡ pos j

-- reducing changes no difference
kept_i : (a b c : ℕ) → pos (reduced a b c).i -ℤ pos (reduced a b c).k ≡ pos a -ℤ pos c
unfolding reduced
kept_i a b c = same (a - least a b c) (c - least a b c) a c (omega arith)

kept_j : (a b c : ℕ) → pos (reduced a b c).j -ℤ pos (reduced a b c).k ≡ pos b -ℤ pos c
unfolding reduced
kept_j a b c = same (b - least a b c) (c - least a b c) b c (omega arith)

left : (i j : ℕ) → (pos (i + j) -ℤ pos i) -ℤ (pos j -ℤ pos i) ≡ pos i
left i j = minus (i + j) i j i ∙ diff_pos (i + j + i) (i + j) i (omega arith)

down : (i j : ℕ) → (pos i -ℤ pos j) -ℤ (pos 0 -ℤ pos j) ≡ pos i
down i j = minus i j 0 j ∙ diff_pos (i + j) (j + 0) i (omega arith)

both : (i j : ℕ) → ((pos i -ℤ pos (i + j)) -ℤ (pos j -ℤ pos (i + j))) -ℤ (pos i -ℤ pos (i + j)) ≡ pos i
both i j =
    ap (λ (z : ℤ). z -ℤ (pos i -ℤ pos (i + j))) (minus i (i + j) j (i + j))
    ∙ minus (i + (i + j)) (i + j + j) i (i + j)
    ∙ diff_pos (i + (i + j) + (i + j)) (i + j + j + i) i (omega arith)

-- of the triple that the folds lift i and j to
back : (l d : Bool) (i j : ℕ) → let c = lifted_of l d i j in Undone l d (pos c.i -ℤ pos c.k) (pos c.j -ℤ pos c.k) i j
back false false i j = rw (kept_i i j 0, kept_j i j 0) (record { first = diff_pos i 0 i (omega arith); second = diff_pos j 0 j (omega arith) })
back true false i j = rw (kept_i j (i + j) i, kept_j j (i + j) i) (record { first = left i j; second = diff_pos (i + j) i j (omega arith) })
back false true i j = rw (kept_i i 0 j, kept_j i 0 j) (record { first = down i j; second = turned 0 j ∙ diff_pos j 0 j (omega arith) })
back true true i j = rw (kept_i j i (i + j), kept_j j i (i + j)) (record { first = both i j; second = turned i (i + j) ∙ diff_pos (i + j) i j (omega arith) })

-- The hexagon that i and j are folded to, folded again.
pub undone : (l d : Bool) (i j : ℕ) → let c = fold_of l d i j in Undone l d (pos c.i -ℤ pos c.k) (pos c.j -ℤ pos c.k) i j
undone l d i j = rw (lifted l d i j) (back l d i j)
