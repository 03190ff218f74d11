-- The words of a line by the places of its spaces, and joined again. Assumes nothing.
use mathlib.Core.Path.{◌≡◌, refl, sym, ap, ◌∙◌}
use mathlib.Core.Bool.{Bool, true, false}
use mathlib.Core.List.{List, [], ◌∷◌, ◌++◌, append_assoc, append-nil}
use Prim.Native.Nat.{ℕ, suc, ◌+◌, ◌-◌, ◌≤◌, ◌<◌, zero, ◌/◌, ◌%◌}
use native.Mathlib.Nat.{zero-add, not-suc-le-zero}
use native.Mathlib.Decide.{dec_lt}
use native.Mathlib.Omega.{arith}
use lib.Dec.{ltb, eqb, leb-suc-suc}
use lib.ListN.{length, take, drop, length-drop}
use lib.Seq.{take-length, drop-drop}
use borrow.Author.Tests.{lt-ltb, le-ltb, le-leb, lt-leb, eqb-true, ne_eqb}
use Rattle.reply.specs.Choice.{pick}
use Rattle.ask_read.specs.Scan.{index_after, index_of, slice}
use Rattle.ask_read.specs.Questions.{onto, words, words_from, bare}
use Rattle.text.specs.Numbers.{decimal, digit}
use Rattle.text.proofs.Decimals.{small, large}

-- the words behind a first one that ends at i
abbrev behind : ℕ → List ℕ → List (List ℕ)
behind i bs = pick (ltb i (length bs)) (words (drop (suc i) bs)) []

-- one byte more in front: a space, or the first word's
in_front : (b : ℕ) (bs : List ℕ) (i : ℕ) (t : Bool) → words bs ≡ take i bs ∷ behind i bs → pick t ([] ∷ words bs) (onto b (words bs)) ≡ take (index_after t i) (b ∷ bs) ∷ behind (index_after t i) (b ∷ bs)
in_front b bs i true e = rw (lt-ltb 0 (suc (length bs)) (omega arith))
in_front b bs i false e = rw (leb-suc-suc (suc i) (length bs)) (ap (onto b) e)

-- the first word ends at the first space
split : (bs : List ℕ) → words bs ≡ take (index_of 32 bs) bs ∷ behind (index_of 32 bs) bs
unfolding words index_of
split [] = refl
split (b ∷ bs) = in_front b bs (index_of 32 bs) (eqb b 32) (split bs)

behind_from : (line : List ℕ) (at i end : ℕ) → at ≤ length line → end ≡ at + i → behind i (drop at line) ≡ words_from line (end + 1)
unfolding words_from
behind_from line at i end h e =
    let l = length-drop at line in
    let n : at + suc i ≡ end + 1 = omega arith in
    let s : drop (suc i) (drop at line) ≡ drop (end + 1) line = drop-drop (suc i) at line ∙ ap (λ (k : ℕ). drop k line) n in
    elim (dec_lt end (length line)) [
      | yes q ↦ rw (lt-ltb i (length (drop at line)) (omega arith), le-leb (end + 1) (length line) (omega arith)) (ap words s)
      | no q ↦ rw (le-ltb i (length (drop at line)) (omega arith), lt-leb (end + 1) (length line) (omega arith))
    ]

part : (line : List ℕ) (at : ℕ) → slice at (length line) line ≡ drop at line
part line at = ap (drop at) (take-length line)

-- the word at an index within the line, and those behind it
pub word_at : (line : List ℕ) (at end : ℕ) → at ≤ length line → end ≡ at + index_of 32 (slice at (length line) line) → words_from line at ≡ take (end - at) (drop at line) ∷ words_from line (end + 1)
unfolding words_from
word_at line at end h f =
    let i = index_of 32 (drop at line) in
    let e : end ≡ at + i = f ∙ ap (λ (x : List ℕ). at + index_of 32 x) (part line at) in
    let n : i ≡ end - at = omega arith in
    let first = ap (λ (k : ℕ). take k (drop at line)) n in
    rw (le-leb at (length line) h) (split (drop at line) ∙ λ d. first d ∷ behind_from line at i end h e d)

pub first_word : (line : List ℕ) (end : ℕ) → end ≡ 0 + index_of 32 (slice 0 (length line) line) → words line ≡ take end line ∷ words_from line (end + 1)
first_word line end f =
    let e : end ≡ 0 + index_of 32 line = f ∙ ap (λ (x : List ℕ). 0 + index_of 32 x) (part line 0) in
    let first = ap (λ (k : ℕ). take k line) (sym (e ∙ zero-add (index_of 32 line))) in
    split line ∙ λ d. first d ∷ behind_from line 0 (index_of 32 line) end (omega arith) e d

-- past the end there is none
pub no_word : (line : List ℕ) (at : ℕ) → length line < at → words_from line at ≡ []
unfolding words_from
no_word line at h = rw (lt-leb at (length line) h)

pub some_word : (line : List ℕ) (at : ℕ) → at ≤ length line → words_from line at ≡ take (index_of 32 (drop at line)) (drop at line) ∷ behind (index_of 32 (drop at line)) (drop at line)
unfolding words_from
some_word line at h = rw (le-leb at (length line) h) (split (drop at line))

-- from the first byte on all words stand
pub all_words : (line : List ℕ) → words_from line 0 ≡ words line
unfolding words_from
all_words line = rw (le-leb 0 (length line) (omega arith)) refl

-- nothing ends an empty line
pub bare_empty : (end : ℕ) (line : List ℕ) → length line ≤ 0 → take (length line) line ≡ bare end line
unfolding bare
bare_empty end [] h = go (eqb 0 end)
  where
    go : (t : Bool) → ◌≡◌ {A = List ℕ} [] (pick t [] [])
    go true = refl
    go false = refl
bare_empty end (b ∷ line) h = absurd (omega arith)

-- ---- words joined

-- a space before each word
abbrev pub spaced : List (List ℕ) → List ℕ
spaced [] = []
spaced (w ∷ ws) = 32 ∷ (w ++ spaced ws)

into : (b : ℕ) (bs : List ℕ) (ws : List (List ℕ)) → 32 ∷ bs ≡ spaced ws → 32 ∷ b ∷ bs ≡ spaced (onto b ws)
into b bs [] e = absurd (omega (arith, ap length e))
into b bs (w ∷ ws) e = ap (λ (x : List ℕ). 32 ∷ b ∷ drop 1 x) e

-- the words of a line, joined, are the line
pub joined : (bs : List ℕ) → 32 ∷ bs ≡ spaced (words bs)
unfolding words
joined [] = refl
joined (b ∷ bs) = go (eqb b 32) refl (joined bs)
  where
    go : (t : Bool) → eqb b 32 ≡ t → 32 ∷ bs ≡ spaced (words bs) → 32 ∷ b ∷ bs ≡ spaced (pick t ([] ∷ words bs) (onto b (words bs)))
    go true t e = ap (λ (x : ℕ). 32 ∷ x ∷ bs) (eqb-true b 32 t) ∙ ap (λ (x : List ℕ). 32 ∷ x) e
    go false t e = into b bs (words bs) e

-- bytes without a space go onto the first word of what follows
pub record Whole (w : List ℕ) : Type 0 where
  pub on : (rest v : List ℕ) (vs : List (List ℕ)) → words rest ≡ v ∷ vs → words (w ++ rest) ≡ (w ++ v) ∷ vs

pub one_byte : (b : ℕ) → (b ≡ 32 → ⊥) → Whole (b ∷ [])
unfolding words
one_byte b h = record { on = λ rest v vs e. rw (ne_eqb b 32 h) (ap (onto b) e) }

decimal_to : (t n : ℕ) → n < t → Whole (decimal n)
decimal_to zero n h = absurd (not-suc-le-zero h)
decimal_to (suc t) n h =
    elim (dec_lt n 10) [
      | yes s ↦ rw (small n s) (one_byte (digit n) (λ e. omega arith))
      | no l ↦
          let x = decimal (n / 10) in
          let b = digit (n % 10) in
          let front = decimal_to t (n / 10) (omega arith) in
          let last = one_byte b (λ e. omega arith) in
          rw (large n (omega arith))
          (record {
            on = λ rest v vs e.
                ap words (append_assoc x (b ∷ []) rest) ∙
                (front.on (b ∷ rest) (b ∷ v) vs (last.on rest v vs e) ∙ ap (λ (y : List ℕ). y ∷ vs) (sym (append_assoc x (b ∷ []) v)));
          })
    ]

pub decimal_whole : (n : ℕ) → Whole (decimal n)
decimal_whole n = decimal_to (suc n) n (omega arith)

-- such a word before a space, and at the end
pub before_space : {w : List ℕ} {ws : List (List ℕ)} → Whole w → (rest : List ℕ) → words rest ≡ ws → words (w ++ 32 ∷ rest) ≡ w ∷ ws
unfolding words
before_space {w} {ws} h rest e = h.on (32 ∷ rest) [] ws (ap (λ (x : List (List ℕ)). [] ∷ x) e) ∙ ap (λ (x : List ℕ). x ∷ ws) (append-nil w)

pub at_end : {w : List ℕ} → Whole w → words w ≡ w ∷ []
unfolding words
at_end {w} h = ap words (sym (append-nil w)) ∙ (h.on [] [] [] refl ∙ ap (λ (x : List ℕ). x ∷ []) (append-nil w))
