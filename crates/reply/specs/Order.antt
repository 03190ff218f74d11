-- Which refusal is given if several apply: the foremost in one order. Document 01 has that of the numbers; document 02 gives the later ones places of their own.
use Rattle.std.specs.Prelude.{◌≡◌, true, false, List, [], ◌∷◌, ℕ, suc, ◌≤◌, eqb, Ok, Err}
use Rattle.reply.specs.Choice.{pick}
use Rattle.reply.specs.declared.Refusal.{Refusal}
use Rattle.reply.specs.Replies.{number_of, Verdict, Reason}

-- The order of refusals, by their numbers: a line that cannot be read comes first, a bad list after bad rows and before a bad face.
-- Later requests put theirs in here: 17 after 4, 16 after 10, 18 last.
abbrev pub order : List ℕ
order = 14 ∷ 1 ∷ 2 ∷ 15 ∷ 3 ∷ 4 ∷ 5 ∷ 6 ∷ 7 ∷ 8 ∷ 9 ∷ 10 ∷ 11 ∷ 12 ∷ 13 ∷ []

-- how many stand before a number in a list
abbrev pub ahead : List ℕ → ℕ → ℕ
ahead [] n = 0
ahead (m ∷ ms) n = pick (eqb m n) 0 (suc (ahead ms n))

-- the place of a refusal in the order
abbrev pub rank_of : Refusal → ℕ
rank_of r = ahead order (number_of r)

-- P holds of each element of a list
abbrev pub Each : {A : Type 0} → (A → Type 0) → List A → Type 0
Each P [] = Unit {0}
Each P (x ∷ xs) = P x × Each P xs

-- r is the refusal of a reason that applies
pub data Found (r : Refusal) : List Reason → Type 0 where
  here : {x : Reason} {rs : List Reason} → x.applies ≡ true → x.refusal ≡ r → Found r (x ∷ rs)
  later : {x : Reason} {rs : List Reason} → Found r rs → Found r (x ∷ rs)

-- what the papers give, of reasons listed in any way: nothing where none applies, else one that applies and is foremost in the order
abbrev pub Foremost : List Reason → Verdict → Type 0
Foremost rs (Ok _) = Each (λ (x : Reason). x.applies ≡ false) rs
Foremost rs (Err r) = Found r rs × Each (λ (x : Reason). x.applies ≡ true → rank_of r ≤ rank_of x.refusal) rs

-- the reasons stand in the order, none before rank n
abbrev pub Ascending : ℕ → List Reason → Type 0
Ascending n [] = Unit {0}
Ascending n (x ∷ rs) = (n ≤ rank_of x.refusal) × Ascending (rank_of x.refusal) rs
