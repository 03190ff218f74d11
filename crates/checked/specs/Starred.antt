-- The cases that document 01 marks with * under "Checked places": each a question and the whole reply, in the paper's numbers.
use Rattle.std.specs.Prelude.{Bool, true, false, List, [], ◌∷◌, ◌++◌, ℕ, Float}
use Prim.Native.String.{String}
use Rattle.reply.specs.Text.{text}
use Rattle.reply.specs.Replies.{Reply, answer, zeros}
use Rattle.double.specs.Double.{decimal}
use Rattle.vec2d.specs.Points.{point}
use Rattle.vec2d.specs.Rounding.{hexagon_reply}
use Rattle.faceijk.specs.declared.Place.{Place}
use Rattle.faceijk.specs.Places.{QAt}
use Rattle.faceijk.specs.Entries.{cross_reply}
use Rattle.boundary.specs.Corners.{corners_reply}
use Rattle.text.specs.Numbers.{newline}
use Rattle.walk.specs.Texts.{input_text}

-- what the paper asks: rounding a point; crossing from a place at a grid level, plain or substrate, the turn asked or not; the Q of a place; the corners of a centre at a cell level; what `walk` prints for an input
pub data Question : Type 0 where
  round : Float → Float → Question
  cross : Place → ℕ → Bool → Bool → Question
  Q : Place → Question
  corners : Place → ℕ → Question
  walk : List ℕ → Question

-- a reply is a number and values, that of `walk` a text
pub data Said : Type 0 where
  replied : Reply → Said
  printed : List ℕ → Said

-- what the definitions say
abbrev pub said : Question → Said
said (round x y) = replied (hexagon_reply (point x y))
said (cross p level substrate turn) = replied (cross_reply p level substrate turn)
said (Q p) = replied (answer (QAt p ∷ []))
said (corners p level) = replied (corners_reply p level)
said (walk input) = printed (input_text input)

pub record Case : Type 0 where
  pub asked : Question
  pub given : Said

abbrev case : Question → Said → Case
case q s = record { asked = q; given = s }

abbrev at : ℕ → ℕ → ℕ → ℕ → Place
at f i j k = record { face = f; i = i; j = j; k = k }

abbrev values : List ℕ → Said
values vs = replied (answer vs)

-- a refusal of an entry with five values
abbrev refused : ℕ → Said
refused number = replied (record { number = number; values = zeros 5 })

abbrev plain : Bool
plain = false

abbrev substrate : Bool
substrate = true

-- how a crossing ends
abbrev none : ℕ
none = 0

abbrev face_edge : ℕ
face_edge = 1

abbrev new_face : ℕ
new_face = 2

-- a line, ended by a newline
abbrev line : String → List ℕ
line s = text s ++ newline ∷ []

abbrev pub starred : List Case
starred =
    case (round (decimal 1 0) (decimal 0 0)) (values (1 ∷ 0 ∷ 0 ∷ [])) ∷
    case (cross (at 0 1 1 0) 0 plain false) (values (0 ∷ 1 ∷ 1 ∷ 0 ∷ none ∷ [])) ∷
    case (cross (at 0 3 0 0) 0 plain false) (values (4 ∷ 3 ∷ 1 ∷ 0 ∷ new_face ∷ [])) ∷
    case (cross (at 0 3 3 0) 0 substrate false) (values (0 ∷ 3 ∷ 3 ∷ 0 ∷ face_edge ∷ [])) ∷
    case (cross (at 0 7 2 0) 0 substrate false) (values (4 ∷ 5 ∷ 1 ∷ 0 ∷ face_edge ∷ [])) ∷
    case (cross (at 5 4 4 0) 0 substrate false) (values (10 ∷ 2 ∷ 2 ∷ 0 ∷ new_face ∷ [])) ∷
    case (cross (at 0 14 0 1) 2 plain true) (values (1 ∷ 14 ∷ 1 ∷ 0 ∷ new_face ∷ [])) ∷
    case (Q (at 0 14 0 1)) (values (183 ∷ [])) ∷
    case (Q (at 1 14 1 0)) (values (183 ∷ [])) ∷
    case (cross (at 0 1 0 0) 1 plain false) (refused 4) ∷
    case (cross (at 0 1 1 1) 0 plain false) (refused 10) ∷
    case (cross (at 20 1 0 0) 0 plain false) (refused 3) ∷
    case (corners (at 0 1 0 0) 0) (values (0 ∷ 5 ∷ 1 ∷ 0 ∷ 4 ∷ 2 ∷ 0 ∷ 2 ∷ 1 ∷ 0 ∷ 2 ∷ 0 ∷ 1 ∷ 4 ∷ 0 ∷ 2 ∷ 5 ∷ 0 ∷ 1 ∷ [])) ∷
    case (corners (at 0 1 0 0) 1) (values (2 ∷ 14 ∷ 7 ∷ 0 ∷ 10 ∷ 8 ∷ 0 ∷ 5 ∷ 4 ∷ 0 ∷ 5 ∷ 0 ∷ 1 ∷ 10 ∷ 0 ∷ 2 ∷ 13 ∷ 2 ∷ 0 ∷ [])) ∷
    case (walk (text "0 0 p 3 0 0"))
    (printed (line "from 0 3 0 0" ++ line "over 4 3 1 0" ++ line "over 3 2 1 0" ++ line "over 2 1 0 0" ++ line "rest 2 1 0 0 3")) ∷ []
