-- The line that answers a line, as bytes: the values with single spaces between, or the refusal's number and name, and a newline.
use Rattle.std.specs.Prelude.{List, [], ◌∷◌, ◌++◌, ℕ, zero, suc, ◌+◌, ◌-◌, ◌*◌, ◌/◌, min, ltb, eqb, Float, length, get_or}
use Rattle.reply.specs.Choice.{pick}
use Rattle.reply.specs.Replies.{Reply}
use Rattle.text.specs.Numbers.{newline}
use Rattle.ask_text.specs.Texts.{field_text, refused_text}
use Rattle.ask_read.specs.declared.Asked.{Asked}
use Rattle.ask_read.specs.declared.Question.{Question}
use Rattle.ask_read.specs.Questions.{question_of}
use Rattle.ask_call.specs.Replies.{kinds_of, reply_to}

-- ---- the values

-- the first n values
unfoldable pub text_to : List ℕ → List ℕ → ℕ → List ℕ
text_to kinds vs zero = []
text_to kinds vs (suc k) = text_to kinds vs k ++ field_text k (get_or kinds k 0) (get_or vs k 0)

-- How many of n values are printed. Borders alone have 49 or more, a count and twelve points: of them the count, which is the first value, and as many points as it says
unfoldable pub shown_of : ℕ → ℕ → ℕ
shown_of n count = pick (ltb n 49) n (min n (1 + (n - 1) / 12 * count))

-- an answer without values, as the help's, has no line
unfoldable pub values_text : List ℕ → List ℕ → List ℕ
values_text [] vs = []
values_text (k ∷ ks) vs = text_to (k ∷ ks) vs (shown_of (length (k ∷ ks)) (get_or vs 0 0)) ++ newline ∷ []

-- ---- the line

-- the text that a reply to a question is printed as
unfoldable pub answer_text : Asked → Reply → List ℕ
answer_text asked r = pick (eqb r.number 0) (values_text (kinds_of asked) r.values) (refused_text r.number)

-- the line that answers a line, on a frame
abbrev pub question_text : List Float → Question → List ℕ
question_text frame q = answer_text q.asked (reply_to frame q)

unfoldable pub ask_text : List Float → List ℕ → List ℕ
ask_text frame bs = question_text frame (question_of bs)
