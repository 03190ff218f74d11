-- Reading a line by its words, so that it can be computed. What a line must be is said in specs/Reading; proofs/Asking, `reads`, shows that this says the same.
use Rattle.std.specs.Prelude.{Bool, ◌&&◌, List, ℕ, ltb, eqb, get_or, Option, Some, None}
use Rattle.reply.specs.Choice.{pick}
use Rattle.text.specs.Numbers.{newline}
use Rattle.ask_read.specs.Questions.{words, row_at, readable, settle_of, bare}
use Rattle.walk_question.specs.declared.Question.{Question}

-- a line without the newline at its end
abbrev pub line_of : List ℕ → List ℕ
line_of bs = bare newline bs

abbrev pub question_of : List ℕ → Question
question_of ns =
    record {
      place = record { face = get_or ns 0 0; i = get_or ns 3 0; j = get_or ns 4 0; k = get_or ns 5 0 };
      level = record { 0 = get_or ns 1 0 };
      substrate = eqb (get_or ns 2 0) 1;
    }

-- two digits hold face and level, four the coordinates
abbrev pub is_short : List ℕ → Bool
is_short ns =
    ltb (get_or ns 0 0) 100 &&
    ltb (get_or ns 1 0) 100 &&
    ltb (get_or ns 3 0) 10000 &&
    ltb (get_or ns 4 0) 10000 &&
    ltb (get_or ns 5 0) 10000

unfoldable pub of_numbers : List ℕ → Option Question
of_numbers ns = pick (is_short ns) (Some (question_of ns)) None

-- the fields of `settle`, each good, or the line is malformed
unfoldable pub reading_of : List ℕ → Option Question
reading_of bs = pick (readable (row_at 6).kinds (words (line_of bs))) (of_numbers (settle_of (line_of bs)).numbers) None
