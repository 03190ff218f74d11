-- `answer_to` meets its contract: settling apart, and all else through the C face. Assumes nothing.
use mathlib.Core.Path.{◌≡◌, refl, sym, subst}
use mathlib.Core.List.{List, [], ◌∷◌}
use Prim.Native.Nat.{ℕ}
use types.Run.{OneOf, miss}
use denote.Enum.Declared.{tag_of}
use Rattle.ask_read.specs.contracts.Asked.{the_type}
use lib.Ieee.{to_bits, of_bits}
use Rattle.ask_read.specs.declared.Asked.{Asked}
use Rattle.ask_read.specs.declared.Asked.TheVariants.{Settle}
use Rattle.ask_call.specs.Replies.{reply_of}
use Rattle.ask_answer.specs.Answers.{Says}
use Rattle.ask_answer.proofs.answer_to.Goals as goal

-- the questions other than settling, by their numbers
abbrev others : List ℕ
others = 0 ∷ 1 ∷ 2 ∷ 3 ∷ 4 ∷ 5 ∷ 7 ∷ 8 ∷ 9 ∷ 10 ∷ 11 ∷ 12 ∷ 13 ∷ 14 ∷ 15 ∷ 16 ∷ 17 ∷ 18 ∷ 19 ∷ 20 ∷ []

not-settling : (a : Asked) → OneOf others (tag_of the_type a) → a ≡ Settle → ⊥
not-settling a h e = miss others 6 tt (subst (λ (x : Asked). OneOf others (tag_of the_type x)) e h)

pub call-outcome-requires : goal.call-outcome-requires
unfolding to_bits of_bits
call-outcome-requires c = (refl, refl)

pub returns-in-Settle : goal.returns-in-Settle
unfolding reply_of
returns-in-Settle c =
    let a = c.args in
    subst (λ (x : Asked). Says x (reply_of x a.frame.now a.q.numbers a.q.doubles) c.settled.result) (sym c.in-Settle.is) c.settled.ensures
