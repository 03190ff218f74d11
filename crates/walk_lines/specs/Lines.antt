-- The lines that `walk` prints, as bytes: the fixed words, numbers in decimal, one space before each number, a newline at the end.
use Rattle.std.specs.Prelude.{List, [], ◌∷◌, ◌++◌, ℕ}
use Rattle.reply.specs.Text.{text}
use Rattle.reply.specs.declared.Refusal.{Refusal}
use Rattle.reply.specs.Replies.{number_of}
use Rattle.text.specs.Numbers.{field, newline}
use Rattle.faceijk.specs.declared.Place.{Place}
use Rattle.faceijk.specs.declared.Rested.{Rested}
use Rattle.walk_lines.specs.declared.Line.{Line}

-- the fixed words
abbrev pub from_word : List ℕ
from_word = text "from"

abbrev pub over_word : List ℕ
over_word = text "over"

abbrev pub rest_word : List ℕ
rest_word = text "rest"

abbrev pub refused_word : List ℕ
refused_word = text "refused"

-- the numbers of a place, a space before each
unfoldable pub place_fields : Place → List ℕ
place_fields p = field p.face ++ (field p.i ++ (field p.j ++ field p.k))

-- the lines
unfoldable pub place_line : List ℕ → Place → List ℕ
place_line word p = word ++ (place_fields p ++ newline ∷ [])

unfoldable pub rest_line : Rested → List ℕ
rest_line s = rest_word ++ (place_fields s.place ++ (field s.steps ++ newline ∷ []))

unfoldable pub refused_line : Refusal → List ℕ
refused_line r = refused_word ++ (field (number_of r) ++ newline ∷ [])

abbrev pub line_text : Line → List ℕ
line_text (Line.From p) = place_line from_word p
line_text (Line.Over p) = place_line over_word p
line_text (Line.Rest s) = rest_line s
line_text (Line.Refused r) = refused_line r
