-- The words that the code holds say what the list of neighbour faces says, computed over all twenty faces and three edges. Assumes nothing.
use mathlib.Core.Path.{◌≡◌, subst, sym}
use mathlib.Core.Bool.{Bool}
use Prim.Native.Nat.{ℕ, ◌*◌, ◌/◌, ◌%◌, ◌^◌, ◌≤◌, ◌<◌}
use native.Mathlib.Decide.{ℕ_discrete}
use native.Mathlib.Omega.{arith}
use lib.Dec.{T, eqb, ltb, eqb→eq}
use Rattle.level.proofs.Computed.{all, at}
use Rattle.faceijk.specs.Faces.{face_over, word_over}

-- the five bits at a place of a word
abbrev pub read : ℕ → ℕ → ℕ
read w n = (w / 2 ^ (5 * n)) % 32

abbrev agrees : ℕ → ℕ → Bool
agrees e f = eqb (read (word_over e (ltb f 10)) (f % 10)) (face_over f e)

one_edge : (e : ℕ) → T (all (agrees e) 20) → (f : ℕ) → f < 20 → read (word_over e (ltb f 10)) (f % 10) ≡ face_over f e
one_edge e t f h = eqb→eq _ _ (at (agrees e) 20 t f h)

pub word_read : (f e : ℕ) → f < 20 → 1 ≤ e → e ≤ 3 → read (word_over e (ltb f 10)) (f % 10) ≡ face_over f e
word_read f e h low high =
    let P : ℕ → Type 0 = λ (x : ℕ). read (word_over x (ltb f 10)) (f % 10) ≡ face_over f x in
    elim (ℕ_discrete e 1) [
      | yes q ↦ subst P (sym q) (one_edge 1 tt f h)
      | no q ↦ elim (ℕ_discrete e 2) [
        | yes r ↦ subst P (sym r) (one_edge 2 tt f h)
        | no r ↦ let s : e ≡ 3 = omega arith in subst P (sym s) (one_edge 3 tt f h)
      ]
    ]
