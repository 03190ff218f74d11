-- The source's folds are those of the definition: the parity offset cancels. Assumes nothing.
use mathlib.Core.Path.{◌≡◌, refl, sym, ap, ◌∙◌}
use mathlib.Core.Bool.{Bool, true, false, not, ◌||◌}
use Prim.Native.Nat.{ℕ, zero, suc, ◌+◌, ◌*◌, ◌/◌, ◌%◌}
use native.Mathlib.Omega.{arith}
use lib.IntN.{ℤ, pos, negsuc, neg_ℤ, ◌+ℤ◌, ◌-ℤ◌, ◌*ℤ◌}
use lib.Dec.{T}
use lib.Signed.{non_neg, quot_z}
use Rattle.coordijk.specs.Signed.{signed, reduced_z}
use Rattle.coordijk.proofs.Differences.{Difference, of, difference, diff_neg, from_nought, same, times, plus, less, sum, minus}
use Rattle.vec2d.specs.Rounding.{folded, fold_of}
use Rattle.vec2d.specs.SourceFolds.{offset_of, axis_of, half_of, source_folded}

-- ---- x < 0: twice the axis is j and the offset, and the offset is taken off again

-- two numbers, of which the first is below zero and the second not above it
below : (n o : ℕ) → negsuc n +ℤ neg_ℤ (pos o) ≡ negsuc (n + o)
below n zero = diff_neg 0 (suc n) (n + 0) (omega arith)
below n (suc o) = ap negsuc (omega arith)

twice_axis : (j : ℤ) → pos 2 *ℤ axis_of j ≡ j +ℤ offset_of j
twice_axis (pos n) = ap pos (omega arith)
twice_axis (negsuc n) =
    let o = suc n % 2 in
    let h : 2 * (suc (n + o) / 2) ≡ suc (n + o) = omega arith in
    ap (λ (z : ℤ). pos 2 *ℤ quot_z z (pos 2)) (below n o)
    ∙ ap (λ (z : ℤ). pos 2 *ℤ z) (sym (from_nought (suc (n + o) / 2)))
    ∙ times 2 0 (suc (n + o) / 2)
    ∙ ap (λ (k : ℕ). pos 0 -ℤ pos k) h
    ∙ from_nought (suc (n + o))
    ∙ sym (below n o)

twice_minus : (i r : ℤ) → pos 2 *ℤ (i -ℤ r) ≡ pos 2 *ℤ i -ℤ pos 2 *ℤ r
twice_minus i r = go (difference i) (difference r)
  where
    go : Difference i → Difference r → pos 2 *ℤ (i -ℤ r) ≡ pos 2 *ℤ i -ℤ pos 2 *ℤ r
    go (of a b p) (of c d q) =
        (λ n. pos 2 *ℤ (p n -ℤ q n))
        ∙ ap (λ (z : ℤ). pos 2 *ℤ z) (minus a b c d)
        ∙ times 2 (a + d) (b + c)
        ∙ same (2 * (a + d)) (2 * (b + c)) (2 * a + 2 * d) (2 * b + 2 * c) (omega arith)
        ∙ sym (minus (2 * a) (2 * b) (2 * c) (2 * d))
        ∙ (λ n. sym (times 2 a b) n -ℤ sym (times 2 c d) n)
        ∙ (λ n. pos 2 *ℤ sym p n -ℤ pos 2 *ℤ sym q n)

rest : (i j o : ℤ) → i -ℤ (pos 2 *ℤ i -ℤ (j +ℤ o) +ℤ o) ≡ j -ℤ i
rest i j o = go (difference i) (difference j) (difference o)
  where
    go : Difference i → Difference j → Difference o → i -ℤ (pos 2 *ℤ i -ℤ (j +ℤ o) +ℤ o) ≡ j -ℤ i
    go (of a b p) (of c d q) (of e f r) =
        (λ n. p n -ℤ (pos 2 *ℤ p n -ℤ (q n +ℤ r n) +ℤ r n))
        ∙ (λ n. (pos a -ℤ pos b) -ℤ (times 2 a b n -ℤ sum c d e f n +ℤ (pos e -ℤ pos f)))
        ∙ ap (λ (z : ℤ). (pos a -ℤ pos b) -ℤ (z +ℤ (pos e -ℤ pos f))) (minus (2 * a) (2 * b) (c + e) (d + f))
        ∙ ap (λ (z : ℤ). (pos a -ℤ pos b) -ℤ z) (sum (2 * a + (d + f)) (2 * b + (c + e)) e f)
        ∙ minus a b (2 * a + (d + f) + e) (2 * b + (c + e) + f)
        ∙ same (a + (2 * b + (c + e) + f)) (b + (2 * a + (d + f) + e)) (c + b) (d + a) (omega arith)
        ∙ sym (minus c d a b)
        ∙ (λ n. sym q n -ℤ sym p n)

cancels : (i j : ℤ) → i -ℤ (pos 2 *ℤ (i -ℤ axis_of j) +ℤ offset_of j) ≡ j -ℤ i
cancels i j =
    ap (λ (z : ℤ). i -ℤ (z +ℤ offset_of j)) (twice_minus i (axis_of j))
    ∙ ap (λ (z : ℤ). i -ℤ (pos 2 *ℤ i -ℤ z +ℤ offset_of j)) (twice_axis j)
    ∙ rest i j (offset_of j)

-- ---- y < 0: (2j + 1)/2 is j, and of a j below zero one more, since it is cut towards zero

half : (j : ℕ) → half_of (pos j) ≡ pos j
half j = ap pos (omega arith)

half_below : (n : ℕ) → half_of (negsuc n) ≡ pos 0 -ℤ pos n
half_below n =
    let h : suc (2 * n) / 2 ≡ n = omega arith in
    ap (λ (z : ℤ). quot_z (z +ℤ pos 1) (pos 2)) (sym (from_nought (2 * suc n)))
    ∙ ap (λ (z : ℤ). quot_z z (pos 2)) (plus 0 (2 * suc n) 1 ∙ diff_neg (0 + 1) (2 * suc n) (2 * n) (omega arith))
    ∙ sym (from_nought (suc (2 * n) / 2))
    ∙ ap (λ (k : ℕ). pos 0 -ℤ pos k) h

cut : (z : ℤ) (n : ℕ) → z -ℤ half_of (negsuc n) ≡ (z -ℤ negsuc n) -ℤ pos 1
cut z n = go (difference z)
  where
    go : Difference z → z -ℤ half_of (negsuc n) ≡ (z -ℤ negsuc n) -ℤ pos 1
    go (of a b e) =
        (λ k. e k -ℤ half_below n k)
        ∙ minus a b 0 n
        ∙ same (a + n) (b + 0) (a + suc n) (b + 0 + 1) (omega arith)
        ∙ sym (less (a + suc n) (b + 0) 1)
        ∙ ap (λ (y : ℤ). y -ℤ pos 1) (sym (minus a b 0 (suc n)))
        ∙ (λ k. (sym e k -ℤ diff_neg 0 (suc n) n (omega arith) k) -ℤ pos 1)

-- ---- both folds

-- The two forms agree on all whole numbers, but for the second fold of a j below zero.
pub same_folds : (l d : Bool) (i j : ℤ) → T (not d || non_neg j) → source_folded l d i j ≡ folded l d i j
same_folds false false i j t = refl
same_folds true false i j t = λ n. signed (cancels i j n) j (pos 0)
same_folds false true i (pos j) t = λ n. signed (i -ℤ half j n) (neg_ℤ (pos j)) (pos 0)
same_folds true true i (pos j) t = λ n. signed (cancels i (pos j) n -ℤ half j n) (neg_ℤ (pos j)) (pos 0)
same_folds false true i (negsuc n) t = absurd t
same_folds true true i (negsuc n) t = absurd t

-- There the source's first coordinate is one less.
pub one_less : (l : Bool) (i : ℤ) (n : ℕ) → (source_folded l true i (negsuc n)).i ≡ (folded l true i (negsuc n)).i -ℤ pos 1
one_less false i n = cut i n
one_less true i n = ap (λ (z : ℤ). z -ℤ half_of (negsuc n)) (cancels i (negsuc n)) ∙ cut (negsuc n -ℤ i) n

-- No rounding has such a j, so the fold of every hexagon is the source's.
pub as_source : (l d : Bool) (i j : ℕ) → fold_of l d i j ≡ reduced_z (source_folded l d (pos i) (pos j))
unfolding fold_of
as_source l d i j = ap reduced_z (sym (same_folds l d (pos i) (pos j) (any d)))
  where
    any : (d : Bool) → T (not d || true)
    any true = tt
    any false = tt
