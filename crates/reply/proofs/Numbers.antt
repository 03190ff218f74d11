-- Each refusal has a number of its own, none has 0, and none is above 18. Assumes nothing.
use mathlib.Core.Path.{◌≡◌, refl, sym, ap, ◌∙◌}
use mathlib.Core.List.{List, [], ◌∷◌}
use Prim.Native.Nat.{ℕ, zero, suc, ◌≤◌, ◌<◌}
use native.Mathlib.Omega.{arith}
use Rattle.std.specs.Prelude.{Ok, Err}
use Rattle.reply.specs.declared.Refusal.{Refusal}
use Rattle.reply.specs.declared.Refusal.TheVariants.{BadFrame, BadRows, BadFace, BadLevel, BadRange, BadNumber, OffSphere, Behind, TooFar, NotReduced, OutOfFace, NotAdjacent, NoCrossing, BadLine, BadList}
use Rattle.reply.specs.Replies.{number_of, Verdict, verdict_number}

nth : List Refusal → ℕ → Refusal
nth [] n = BadLine
nth (r ∷ rs) zero = r
nth (r ∷ rs) (suc n) = nth rs n

-- the refusal that has a number: the table read from left to right
named : ℕ → Refusal
named =
    nth
    (BadLine ∷ BadFrame ∷ BadRows ∷ BadFace ∷ BadLevel ∷ BadRange ∷ BadNumber ∷ OffSphere ∷ Behind ∷ TooFar ∷ NotReduced ∷ OutOfFace ∷ NotAdjacent ∷ NoCrossing ∷ BadLine ∷ BadList ∷ [])

read_back : (r : Refusal) → named (number_of r) ≡ r
unfolding named nth
read_back BadFrame = refl
read_back BadRows = refl
read_back BadFace = refl
read_back BadLevel = refl
read_back BadRange = refl
read_back BadNumber = refl
read_back OffSphere = refl
read_back Behind = refl
read_back TooFar = refl
read_back NotReduced = refl
read_back OutOfFace = refl
read_back NotAdjacent = refl
read_back NoCrossing = refl
read_back BadLine = refl
read_back BadList = refl

pub same_number : (a b : Refusal) → number_of a ≡ number_of b → a ≡ b
same_number a b e = sym (read_back a) ∙ (ap named e ∙ read_back b)

pub number_pos : (r : Refusal) → 0 < number_of r
number_pos BadFrame = omega arith
number_pos BadRows = omega arith
number_pos BadFace = omega arith
number_pos BadLevel = omega arith
number_pos BadRange = omega arith
number_pos BadNumber = omega arith
number_pos OffSphere = omega arith
number_pos Behind = omega arith
number_pos TooFar = omega arith
number_pos NotReduced = omega arith
number_pos OutOfFace = omega arith
number_pos NotAdjacent = omega arith
number_pos NoCrossing = omega arith
number_pos BadLine = omega arith
number_pos BadList = omega arith

-- and none is above 18, the last that the paper's requests name
pub number_low : (r : Refusal) → number_of r ≤ 18
number_low BadFrame = omega arith
number_low BadRows = omega arith
number_low BadFace = omega arith
number_low BadLevel = omega arith
number_low BadRange = omega arith
number_low BadNumber = omega arith
number_low OffSphere = omega arith
number_low Behind = omega arith
number_low TooFar = omega arith
number_low NotReduced = omega arith
number_low OutOfFace = omega arith
number_low NotAdjacent = omega arith
number_low NoCrossing = omega arith
number_low BadLine = omega arith
number_low BadList = omega arith

-- Two verdicts with one number are one.
pub same_verdict : {a b : Verdict} → verdict_number a ≡ verdict_number b → a ≡ b
same_verdict {a = Ok _} {b = Ok _} e = refl
same_verdict {a = Ok _} {b = Err r} e = absurd (omega (arith, number_pos r))
same_verdict {a = Err r} {b = Ok _} e = absurd (omega (arith, number_pos r))
same_verdict {a = Err r} {b = Err s} e = ap Err (same_number r s e)
