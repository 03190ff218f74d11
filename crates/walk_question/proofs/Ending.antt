-- The newline at the end of a line: one is dropped, and a line that ends otherwise stays. Assumes nothing.
use mathlib.Core.Path.{◌≡◌, refl, sym, ◌∙◌}
use mathlib.Core.Bool.{Bool, true, false}
use mathlib.Core.List.{List, [], ◌∷◌, ◌++◌, append_assoc, append-nil}
use Prim.Native.Nat.{ℕ, suc, ◌-◌, ◌/◌, ◌%◌}
use native.Mathlib.Decide.{dec_lt}
use native.Mathlib.Omega.{arith}
use lib.Dec.{eqb}
use lib.ListN.{length, get_or, take, length-append, drop_of_length-le}
use lib.Seq.{split_at, take-append_seam, get_or-append_seam}
use borrow.Author.Tests.{eqb-true, ne_eqb}
use Rattle.reply.specs.Choice.{pick}
use Rattle.text.specs.Numbers.{decimal, digit}
use Rattle.text.proofs.Decimals.{small, large}
use Rattle.walk_question.specs.Reading.{Ends, at_end, at_newline}
use Rattle.ask_read.specs.Questions.{bare}
use Rattle.walk_question.specs.Fields.{line_of}

-- what was dropped
pub record Cut (bs line : List ℕ) : Type 0 where
  pub after : List ℕ
  pub text : bs ≡ line ++ after
  pub ends : Ends after

pub cut : (bs : List ℕ) → Cut bs (line_of bs)
unfolding bare
cut [] = record { after = []; text = refl; ends = at_end }
cut (a ∷ s) = go (eqb (get_or (a ∷ s) (length (a ∷ s) - 1) 0) 10) refl
  where
    go : (t : Bool) → eqb (get_or (a ∷ s) (length (a ∷ s) - 1) 0) 10 ≡ t → Cut (a ∷ s) (pick t (take (length (a ∷ s) - 1) (a ∷ s)) (a ∷ s))
    go true t =
        let bs = a ∷ s in
        let n = length bs - 1 in
        let b = eqb-true (get_or bs n 0) 10 t in
        let none = drop_of_length-le bs {i = suc n} (omega arith) in
        record { after = 10 ∷ []; text = split_at bs n 0 (omega arith) ∙ (λ d. take n bs ++ b d ∷ none d); ends = at_newline }
    go false t = record { after = []; text = sym (append-nil (a ∷ s)); ends = at_end }

by_last : (x : List ℕ) (b : ℕ) → line_of (x ++ b ∷ []) ≡ pick (eqb b 10) x (x ++ b ∷ [])
unfolding bare
by_last x b =
    let n : length (x ++ b ∷ []) - 1 ≡ length x = omega (arith, length-append x (b ∷ [])) in
    rw (n, get_or-append_seam x b [] 0, take-append_seam x (b ∷ [])) refl

-- a line that ends with a digit loses a newline after it, and nothing else
after_digit : (x : List ℕ) (d : ℕ) {end : List ℕ} → Ends end → line_of ((x ++ digit d ∷ []) ++ end) ≡ x ++ digit d ∷ []
after_digit x d at_end = rw (append-nil (x ++ digit d ∷ []), by_last x (digit d), ne_eqb (digit d) 10 (λ e. omega arith)) refl
after_digit x d at_newline = by_last (x ++ digit d ∷ []) 10

pub after_number : (x : List ℕ) (n : ℕ) {end : List ℕ} → Ends end → line_of ((x ++ decimal n) ++ end) ≡ x ++ decimal n
after_number x n e =
    elim (dec_lt n 10) [
      | yes s ↦ rw (small n s) (after_digit x n e)
      | no l ↦ rw (large n (omega arith), ← (append_assoc x (decimal (n / 10)) (digit (n % 10) ∷ []))) (after_digit (x ++ decimal (n / 10)) (n % 10) e)
    ]
