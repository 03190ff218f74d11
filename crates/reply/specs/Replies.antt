-- The numbered replies of the papers: the numbers, which refusal is given, and what a reply holds.
use Rattle.std.specs.Prelude.{Bool, List, [], ◌∷◌, ℕ, zero, suc, Result, Ok, Err}
use Rattle.reply.specs.Choice.{pick}
use Rattle.reply.specs.Text.{text}
use Rattle.reply.specs.declared.Refusal.{Refusal}
use Rattle.reply.specs.declared.Refusal.TheVariants.{BadFrame, BadRows, BadFace, BadLevel, BadRange, BadNumber, OffSphere, Behind, TooFar, NotReduced, OutOfFace, NotAdjacent, NoCrossing, BadLine, BadList}

-- the table's first column; 16 to 18 will stand at the end
abbrev pub number_of : Refusal → ℕ
number_of BadFrame = 1
number_of BadRows = 2
number_of BadFace = 3
number_of BadLevel = 4
number_of BadRange = 5
number_of BadNumber = 6
number_of OffSphere = 7
number_of Behind = 8
number_of TooFar = 9
number_of NotReduced = 10
number_of OutOfFace = 11
number_of NotAdjacent = 12
number_of NoCrossing = 13
number_of BadLine = 14
number_of BadList = 15

abbrev pub name_of : Refusal → List ℕ
name_of BadFrame = text "BadFrame"
name_of BadRows = text "BadRows"
name_of BadFace = text "BadFace"
name_of BadLevel = text "BadLevel"
name_of BadRange = text "BadRange"
name_of BadNumber = text "BadNumber"
name_of OffSphere = text "OffSphere"
name_of Behind = text "Behind"
name_of TooFar = text "TooFar"
name_of NotReduced = text "NotReduced"
name_of OutOfFace = text "OutOfFace"
name_of NotAdjacent = text "NotAdjacent"
name_of NoCrossing = text "NoCrossing"
name_of BadLine = text "BadLine"
name_of BadList = text "BadList"

-- what the tests of an input found: nothing, or a refusal
abbrev pub Verdict : Type 0
Verdict = Result (Unit {0}) Refusal

abbrev pub fine : Verdict
fine = Ok tt

-- .. in the paper's numbers: 0 for nothing
abbrev pub verdict_number : Verdict → ℕ
verdict_number (Ok _) = 0
verdict_number (Err r) = number_of r

-- a reason to refuse, and whether it applies
pub record Reason : Type 0 where
  pub applies : Bool
  pub refusal : Refusal

abbrev pub when : Bool → Refusal → Reason
when b r = record { applies = b; refusal = r }

-- the first reason that applies. An entry lists its reasons in the order of refusals, so that this is the foremost
abbrev pub first : List Reason → Verdict
first [] = fine
first (r ∷ rs) = pick r.applies (Err r.refusal) (first rs)

-- what an entry says, in the paper's numbers: the refusal's number, or 0, and its values. A double's value is its 64 bits
pub record Reply : Type 0 where
  pub number : ℕ
  pub values : List ℕ

abbrev pub answer : List ℕ → Reply
answer vs = record { number = 0; values = vs }

abbrev pub zeros : ℕ → List ℕ
zeros zero = []
zeros (suc n) = 0 ∷ zeros n

-- each refusal returns its number and zeros elsewhere
abbrev pub refusal : ℕ → Refusal → Reply
refusal n r = record { number = number_of r; values = zeros n }

-- what an entry that answers or refuses says, by the n values of its answer
abbrev pub said : {A : Type 0} → ℕ → (A → List ℕ) → Result A Refusal → Reply
said n values (Ok a) = answer (values a)
said n values (Err r) = refusal n r

-- a question of yes or no has one value: 1 for yes, 0 for no
abbrev pub bit : Bool → ℕ
bit b = pick b 1 0

abbrev pub yes_or_no : Bool → List ℕ
yes_or_no b = bit b ∷ []

-- the reply of an entry with n values: these values where its tests found nothing, the refusal else
abbrev pub reply : ℕ → Verdict → List ℕ → Reply
reply n (Ok _) vs = answer vs
reply n (Err r) vs = refusal n r
