-- A value of an answer as bytes, by its kind, and the line of a refusal.
use Rattle.std.specs.Prelude.{List, [], ◌∷◌, ◌++◌, ℕ, ◌-◌, eqb, get_or}
use Rattle.reply.specs.Choice.{pick}
use Rattle.reply.specs.Text.{text}
use Rattle.ask_text.specs.declared.Kind.{Kind}
use Rattle.text.specs.Numbers.{decimal, hex, field, space, newline}

-- ---- a value

-- How a crossing ended, whether corners agree, and what a point is, by their numbers. A number that stands for no word gets the last one: NewFace, no, crossing.
unfoldable pub overage_text : ℕ → List ℕ
overage_text v = pick (eqb v 0) (text "None") (pick (eqb v 1) (text "FaceEdge") (text "NewFace"))

unfoldable pub agreed_text : ℕ → List ℕ
agreed_text v = pick (eqb v 1) (text "yes") (text "no")

unfoldable pub mark_text : ℕ → List ℕ
mark_text v = pick (eqb v 1) (text "corner") (text "crossing")

-- a value by its kind
abbrev pub kind_text : Kind → ℕ → List ℕ
kind_text Kind.Number v = decimal v
kind_text Kind.Double v = hex v
kind_text Kind.Overage v = overage_text v
kind_text Kind.Agreed v = agreed_text v
kind_text Kind.Mark v = mark_text v

-- a kind by its letter: x a double's bits, o, a and m the words above, n a number
abbrev pub kind_of : ℕ → Kind
kind_of letter =
    pick (eqb letter 120) Kind.Double
    (pick (eqb letter 111) Kind.Overage (pick (eqb letter 97) Kind.Agreed (pick (eqb letter 109) Kind.Mark Kind.Number)))

unfoldable pub value_text : ℕ → ℕ → List ℕ
value_text kind v = kind_text (kind_of kind) v

-- a space stands before each value but the first
unfoldable pub field_text : ℕ → ℕ → ℕ → List ℕ
field_text k kind v = pick (eqb k 0) (value_text kind v) (space ∷ value_text kind v)

-- ---- a refusal

-- the names of the refusals, by their numbers from 1 on
abbrev pub names : List (List ℕ)
names =
    text "BadFrame" ∷
    text "BadRows" ∷
    text "BadFace" ∷
    text "BadLevel" ∷
    text "BadRange" ∷
    text "BadNumber" ∷
    text "OffSphere" ∷
    text "Behind" ∷
    text "TooFar" ∷
    text "NotReduced" ∷
    text "OutOfFace" ∷
    text "NotAdjacent" ∷
    text "NoCrossing" ∷
    text "BadLine" ∷
    text "BadList" ∷
    []

-- a number that no refusal has gets the last name
unfoldable pub name_of : ℕ → List ℕ
name_of n = get_or names (n - 1) (text "BadList")

-- a refusal is its number and its name
unfoldable pub refused_text : ℕ → List ℕ
refused_text n = text "refused" ++ (field n ++ (space ∷ (name_of n ++ newline ∷ [])))
