-- The line that `walk` reads: six fields with single spaces, face, grid level, p or s, i, j, k; then one newline or the end, and nothing more.
use Rattle.std.specs.Prelude.{◌≡◌, Bool, List, [], ◌∷◌, ◌++◌, ℕ, ◌≤◌, length, Option, Some, None}
use Rattle.reply.specs.Choice.{pick}
use Rattle.text.specs.Numbers.{decimal, field, space, newline}
use Rattle.walk_question.specs.declared.Question.{Question}

-- p, or s for a substrate grid
abbrev pub letter : Bool → ℕ
letter substrate = pick substrate 115 112

-- the six fields with single spaces. A number in decimal has no sign and no leading zero
unfoldable pub fields_of : Question → List ℕ
fields_of q =
    decimal q.place.face ++
    (field q.level.0 ++
    (space ∷ letter q.substrate ∷
    (field q.place.i ++ (field q.place.j ++ field q.place.k))))

-- face and level have at most two digits, coordinates at most four
pub record Short (q : Question) : Type 0 where
  pub face : length (decimal q.place.face) ≤ 2
  pub level : length (decimal q.level.0) ≤ 2
  pub i : length (decimal q.place.i) ≤ 4
  pub j : length (decimal q.place.j) ≤ 4
  pub k : length (decimal q.place.k) ≤ 4

-- one newline or the end, nothing more
pub data Ends : List ℕ → Type 0 where
  at_end : Ends []
  at_newline : Ends (newline ∷ [])

-- the line asks q: it is q's text
pub record Asks (q : Question) (bs : List ℕ) : Type 0 where
  pub short : Short q
  pub after : List ℕ
  pub text : bs ≡ fields_of q ++ after
  pub ends : Ends after

-- how a line is read: as the question that it asks, or as malformed if it asks none
abbrev pub Read : List ℕ → Option Question → Type 0
Read bs (Some q) = Asks q bs
Read bs None = (q : Question) → Asks q bs → ⊥
