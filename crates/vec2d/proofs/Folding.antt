-- The folds without numbers below zero: a triple a, b, c reduces as a - c, b - c, 0 does. Assumes nothing.
use mathlib.Core.Path.{◌≡◌, refl, sym, ◌∙◌}
use mathlib.Core.Bool.{Bool, true, false}
use Prim.Native.Nat.{ℕ, ◌+◌, ◌-◌, max}
use native.Mathlib.Omega.{arith}
use lib.IntN.{ℤ, pos, ◌-ℤ◌}
use Rattle.reply.specs.Choice.{pick}
use Rattle.coordijk.specs.declared.CoordIJK.{CoordIJK}
use Rattle.coordijk.specs.Coordinates.{coord, least, reduced}
use Rattle.coordijk.specs.Signed.{signed, reduced_z}
use Rattle.coordijk.proofs.Differences.{diff_pos, from_nought, same, less}
use Rattle.coordijk.proofs.Lifting.{lowered}
use Rattle.vec2d.specs.Rounding.{fold_of}

-- i, j, 0; for x < 0 j - i, j, 0; for y < 0 i - j, -j, 0
abbrev pub lifted_of : Bool → Bool → ℕ → ℕ → CoordIJK
lifted_of false false i j = reduced i j 0
lifted_of true false i j = reduced j (i + j) i
lifted_of false true i j = reduced i 0 j
lifted_of true true i j = reduced j i (i + j)

raise : (a b c : ℕ) (y z : ℤ) → y ≡ pos a -ℤ pos c → z ≡ pos b -ℤ pos c → reduced_z (signed y z (pos 0)) ≡ reduced a b c
raise a b c y z p q = (λ n. reduced_z (signed (p n) (q n) (sym (diff_pos c c 0 (omega arith)) n))) ∙ lowered a b c c

-- Folding and reducing over ℤ is reducing the lifted triple.
pub lifted : (l d : Bool) (i j : ℕ) → fold_of l d i j ≡ lifted_of l d i j
unfolding fold_of
lifted false false i j = raise i j 0 _ _ (sym (diff_pos i 0 i (omega arith))) (sym (diff_pos j 0 j (omega arith)))
lifted true false i j = raise j (i + j) i _ _ refl (sym (diff_pos (i + j) i j (omega arith)))
lifted false true i j = raise i 0 j _ _ refl (sym (from_nought j))
lifted true true i j = raise j i (i + j) _ _ (less j i j) (sym (from_nought j) ∙ same 0 j i (i + j) (omega arith))

-- ---- reducing the lifted triple without a branch

red : (a b c i j k : ℕ) → i ≡ a - least a b c → j ≡ b - least a b c → k ≡ c - least a b c → coord i j k ≡ reduced a b c
unfolding reduced
red a b c i j k p q r = λ n. coord (p n) (q n) (r n)

-- With the greater of i and j added to -i, 0, -j nothing is left to reduce.
pub flattened : (l d : Bool) (i j : ℕ) →
    let second = pick l (max i j) j in
    let third = pick l (max i j - j) 0 in
    coord (pick l (max i j - i) i) (pick d third second) (pick d second third) ≡ lifted_of l d i j
flattened false false i j = red i j 0 i j 0 (omega arith) (omega arith) (omega arith)
flattened false true i j = red i 0 j i 0 j (omega arith) (omega arith) (omega arith)
flattened true false i j = red j (i + j) i (max i j - i) (max i j) (max i j - j) (omega arith) (omega arith) (omega arith)
flattened true true i j = red j i (i + j) (max i j - i) (max i j - j) (max i j) (omega arith) (omega arith) (omega arith)
