-- What a line asks: words with single spaces between, of which the first names the question and the others are its fields.
use Rattle.std.specs.Prelude.{Bool, true, false, ◌&&◌, Option, Some, None, option_map, List, [], ◌∷◌, map, ℕ, suc, ◌-◌, eqb, leb, length, get_or, set, take, drop, replicate, Float}
use Prim.Native.String.{String}
use Rattle.reply.specs.Choice.{pick}
use Rattle.reply.specs.Text.{text}
use Rattle.std.specs.Option.{is_some}
use Rattle.ask_read.specs.declared.Field.{Field}
use Rattle.ask_read.specs.declared.Field.TheVariants.{Number, Double}
use Rattle.double.specs.Double.{nought}
use Rattle.ask_read.specs.Words.{number_field, double_field, same, flag_field}
use Rattle.ask_read.specs.declared.Kind.{Kind}
use Rattle.ask_read.specs.declared.Asked.{Asked}
use Rattle.ask_read.specs.declared.Asked.TheVariants.{Round, Centre, Meet, Turn, Step, Cross, Settle, Direction, Same, Nearest, Place, Corners, Hexagon, Pentagon, Root, Sphere, Globe6, Globe5, First, Help, Unreadable}
use Rattle.ask_read.specs.declared.Question.{Question}

-- ---- words

-- a byte before the first word
abbrev pub onto : ℕ → List (List ℕ) → List (List ℕ)
onto b [] = (b ∷ []) ∷ []
onto b (w ∷ ws) = (b ∷ w) ∷ ws

-- the words of a line: it is split at each space, 32, and a word may be empty
unfoldable pub words : List ℕ → List (List ℕ)
words [] = [] ∷ []
words (b ∷ bs) = pick (eqb b 32) ([] ∷ words bs) (onto b (words bs))

-- ---- what is asked

-- a kind by its letter: n a number, x a double, p for p or s, c for ccw or cw, y for no or yes
abbrev pub kind_of : ℕ → Kind
kind_of letter =
    pick (eqb letter 110) Kind.Number
    (pick (eqb letter 120) Kind.Double
    (pick (eqb letter 112) Kind.Grid
    (pick (eqb letter 99) Kind.Turn
    Kind.YesNo)))

-- a question: its name and the kinds of its fields
pub record Row : Type 0 where
  pub name : List ℕ
  pub asked : Asked
  pub kinds : List Kind

abbrev pub row : String → Asked → String → Row
row name a kinds = record { name = text name; asked = a; kinds = map kind_of (text kinds) }

abbrev pub rows : List Row
rows =
    row "round" Round "xx" ∷
    row "centre" Centre "nnn" ∷
    row "meet" Meet "xxxxxxxx" ∷
    row "turn" Turn "nnnnc" ∷
    row "step" Step "nnpnnnn" ∷
    row "cross" Cross "nnpnnny" ∷
    row "settle" Settle "nnpnnn" ∷
    row "direction" Direction "nn" ∷
    row "same" Same "nnnnnnnnn" ∷
    row "nearest" Nearest "xxx" ∷
    row "place" Place "nxxx" ∷
    row "corners" Corners "nnnnn" ∷
    row "hexagon" Hexagon "nnnnnnn" ∷
    row "pentagon" Pentagon "nnnnnnn" ∷
    row "root" Root "x" ∷
    row "sphere" Sphere "nnxx" ∷
    row "globe6" Globe6 "nnnnnnn" ∷
    row "globe5" Globe5 "nnnnnnn" ∷
    row "first" First "nnnnn" ∷
    row "help" Help "" ∷
    []

-- the first row that a word names, or the number past the last; past it nothing is asked
unfoldable pub row_of : List ℕ → List Row → ℕ
row_of w [] = 0
row_of w (r ∷ rs) = pick (same w r.name) 0 (suc (row_of w rs))

unfoldable pub row_at : ℕ → Row
row_at n = get_or rows n (row "" Unreadable "")

-- a word as a field of a kind
unfoldable pub field_of : Kind → List ℕ → Option Field
field_of Kind.Number w = option_map Number (number_field w)
field_of Kind.Double w = option_map Double (double_field w)
field_of Kind.Grid w = option_map Number (flag_field (text "p") (text "s") w)
field_of Kind.Turn w = option_map Number (flag_field (text "ccw") (text "cw") w)
field_of Kind.YesNo w = option_map Number (flag_field (text "no") (text "yes") w)

-- ---- the question

abbrev pub question : Asked → List ℕ → List Float → Question
question a ns xs = record { asked = a; numbers = ns; doubles = xs }

abbrev pub blank : Asked → Question
blank a = question a (replicate 9 0) (replicate 9 nought)

-- a line that does not fit
abbrev pub unreadable : Question
unreadable = blank Unreadable

-- a field at its place
abbrev pub put : ℕ → Field → Question → Question
put k (Number n) q = question q.asked (set q.numbers k n) q.doubles
put k (Double x) q = question q.asked q.numbers (set q.doubles k x)

-- the first word as a field, which no word is not; and the words after it
abbrev pub first_field : Kind → List (List ℕ) → Option Field
first_field kind [] = None
first_field kind (w ∷ ws) = field_of kind w

abbrev pub others : List (List ℕ) → List (List ℕ)
others [] = []
others (w ∷ ws) = ws

-- what a field makes of a question; where there is none the line is unreadable
abbrev pub with_field : Option Field → (Field → Question) → Question
with_field None on = unreadable
with_field (Some f) on = on f

-- the question with its fields from place k on: a word for each kind, and no more
unfoldable pub filled : ℕ → List Kind → List (List ℕ) → Question → Question
filled k [] [] q = q
filled k [] (w ∷ ws) q = unreadable
filled k (kind ∷ kinds) ws q =
    with_field (first_field kind ws) (λ f. filled (suc k) kinds (others ws) (put k f q))

-- whether there is a word for each kind, each a good field of it, and no more
unfoldable pub readable : List Kind → List (List ℕ) → Bool
readable [] [] = true
readable [] (w ∷ ws) = false
readable (kind ∷ kinds) ws = is_some (first_field kind ws) && readable kinds (others ws)

-- the fields of a row's question
abbrev pub filled_by : Row → List (List ℕ) → Question
filled_by r ws = filled 0 r.kinds ws (blank r.asked)

-- the fields of the first row that a word names; a line that names none does not fit
abbrev pub filled_in : List ℕ → List Row → List (List ℕ) → Question
filled_in w [] ws = unreadable
filled_in w (r ∷ rs) ws = pick (same w r.name) (filled_by r ws) (filled_in w rs ws)

-- the first word names the question, the others are its fields
abbrev pub of_words : List (List ℕ) → Question
of_words [] = unreadable
of_words (w ∷ ws) = filled_by (row_at (row_of w rows)) ws

unfoldable pub question_of : List ℕ → Question
question_of line = of_words (words line)

-- a line of the fields of `settle` alone, row 6, without its name
abbrev pub settle_of : List ℕ → Question
settle_of line = filled_by (row_at 6) (words line)

-- the words from an index on: none past the end
unfoldable pub words_from : List ℕ → ℕ → List (List ℕ)
words_from line at = pick (leb at (length line)) (words (drop at line)) []

-- a line without a byte that ends it: a newline, 10, or the carriage return, 13, that belongs to one
unfoldable pub bare : ℕ → List ℕ → List ℕ
bare end line = pick (eqb (get_or line (length line - 1) 0) end) (take (length line - 1) line) line
