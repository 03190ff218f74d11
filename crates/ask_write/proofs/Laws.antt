-- What answering a line means: what is written lies within the buffer, a line that cannot be read gets 14, the help has no line, and two outcomes of one promise coincide. Assumes nothing.
use mathlib.Core.Path.{◌≡◌, refl, ap, subst, ◌∙◌}
use mathlib.Core.Bool.{Bool, true, false}
use mathlib.Core.List.{List, [], ◌∷◌, ◌++◌}
use Prim.Native.Nat.{ℕ, ◌≤◌, ◌<◌}
use native.Mathlib.Omega.{arith}
use lib.Dec.{ltb, eqb}
use lib.Ieee.{Float}
use lib.ListN.{length, get_or, drop, length-append}
use Rattle.reply.specs.Choice.{pick}
use Rattle.reply.specs.Text.{text}
use Rattle.reply.specs.Replies.{Reply}
use Rattle.text.specs.Numbers.{field, space, newline}
use Rattle.text.specs.Writing.{Wrote}
use Rattle.text.proofs.Unique.{one_wrote}
use Rattle.ask_read.specs.declared.Asked.{Asked}
use Rattle.ask_read.specs.declared.Asked.TheVariants.{Round, Centre, Meet, Turn, Step, Cross, Settle, Direction, Same, Nearest, Place, Corners, Hexagon, Pentagon, Root, Sphere, Globe6, Globe5, First, Help, Unreadable}
use Rattle.ask_read.specs.declared.Question.{Question}
use Rattle.ask_read.specs.Questions.{question_of, unreadable}
use Rattle.ask_answer.specs.declared.Answer.{Answer}
use Rattle.ask_call.specs.Replies.{reply_to, reply_of}
use Rattle.ask_answer.specs.Answers.{Says, said_answer}
use Rattle.ask_answer.proofs.Saying.{says}
use Rattle.ask_text.specs.Texts.{name_of, refused_text}
use Rattle.ask_write.specs.Texts.{text_to, shown_of, answer_text, values_text, question_text, ask_text}

-- what was written for the question that a line asks and for its reply answers the line
pub written : (frame : List Float) (bs : List ℕ) (q : Question) (a : Answer) {old new : List ℕ} {n : ℕ} → q ≡ question_of bs → Says q.asked (reply_to frame q) a → Wrote 1300 (answer_text q.asked (said_answer q.asked a)) old new n → Wrote 1300 (ask_text frame bs) old new n
unfolding ask_text
written frame bs q a {old} {new} {n} eq s w =
    subst (λ (x : List ℕ). Wrote 1300 x old new n) (ap (answer_text q.asked) (says q.asked (reply_to frame q) a s) ∙ ap (question_text frame) eq) w

within_by : (b : Bool) (x old new : List ℕ) (r : ℕ) → r ≡ pick b 0 (length x) → new ≡ pick b old (x ++ drop (length x) old) → r ≤ length new
within_by true x old new r e n = omega arith
within_by false x old new r e n = omega (arith, ap length n, length-append x (drop (length x) old))

-- the bytes written are bytes of the buffer
pub within : {x old new : List ℕ} {r : ℕ} → Wrote 1300 x old new r → r ≤ length new
within {x} {old} {new} {r} w = within_by (ltb (length old) 1300) x old new r w.count w.bytes

-- a line that cannot be read is answered 14
pub unreadable_text : (frame : List Float) (bs : List ℕ) → question_of bs ≡ unreadable → ask_text frame bs ≡ refused_text 14
unfolding ask_text answer_text reply_of
unreadable_text frame bs e = ap (question_text frame) e

-- the help has no line
pub help_text : (frame : List Float) (bs : List ℕ) → (question_of bs).asked ≡ Help → ask_text frame bs ≡ []
unfolding ask_text answer_text values_text reply_of
help_text frame bs e = ap (λ (a : Asked). answer_text a (reply_of a frame (question_of bs).numbers (question_of bs).doubles)) e

some_refusal : (n : ℕ) → 0 < length (refused_text n)
unfolding refused_text
some_refusal n = omega (arith, length-append (text "refused") (field n ++ (space ∷ (name_of n ++ newline ∷ []))))

-- and nothing else is without one, so that a length of 0 tells the help where there is room
ends : (x y : List ℕ) (b : ℕ) → 0 < length (x ++ (y ++ b ∷ []))
ends x y b = omega (arith, length-append x (y ++ b ∷ []), length-append y (b ∷ []))

some_line : (k : ℕ) (ks : List ℕ) (r : Reply) → 0 < length (pick (eqb r.number 0) (values_text (k ∷ ks) r.values) (refused_text r.number))
unfolding values_text
some_line k ks r = go (eqb r.number 0)
  where
    go : (t : Bool) → 0 < length (pick t (text_to (k ∷ ks) r.values (shown_of (length (k ∷ ks)) (get_or r.values 0 0)) ++ newline ∷ []) (refused_text r.number))
    go true = ends [] (text_to (k ∷ ks) r.values (shown_of (length (k ∷ ks)) (get_or r.values 0 0))) newline
    go false = some_refusal r.number

some : (a : Asked) (frame : List Float) (ns : List ℕ) (ds : List Float) → (a ≡ Help → ⊥) → 0 < length (answer_text a (reply_of a frame ns ds))
unfolding answer_text reply_of
some Round frame ns ds h = some_line 110 _ (reply_of Round frame ns ds)
some Turn frame ns ds h = some_line 110 _ (reply_of Turn frame ns ds)
some Step frame ns ds h = some_line 110 _ (reply_of Step frame ns ds)
some Cross frame ns ds h = some_line 110 _ (reply_of Cross frame ns ds)
some Settle frame ns ds h = some_line 110 _ (reply_of Settle frame ns ds)
some Direction frame ns ds h = some_line 110 _ (reply_of Direction frame ns ds)
some Nearest frame ns ds h = some_line 110 _ (reply_of Nearest frame ns ds)
some Place frame ns ds h = some_line 110 _ (reply_of Place frame ns ds)
some Corners frame ns ds h = some_line 110 _ (reply_of Corners frame ns ds)
some Hexagon frame ns ds h = some_line 110 _ (reply_of Hexagon frame ns ds)
some Pentagon frame ns ds h = some_line 110 _ (reply_of Pentagon frame ns ds)
some Globe6 frame ns ds h = some_line 110 _ (reply_of Globe6 frame ns ds)
some Globe5 frame ns ds h = some_line 110 _ (reply_of Globe5 frame ns ds)
some Centre frame ns ds h = some_line 120 _ (reply_of Centre frame ns ds)
some Meet frame ns ds h = some_line 120 _ (reply_of Meet frame ns ds)
some Root frame ns ds h = some_line 120 _ (reply_of Root frame ns ds)
some Sphere frame ns ds h = some_line 120 _ (reply_of Sphere frame ns ds)
some Same frame ns ds h = some_line 97 _ (reply_of Same frame ns ds)
some First frame ns ds h = some_line 110 _ (reply_of First frame ns ds)
some Help frame ns ds h = absurd (h refl)
some Unreadable frame ns ds h = some_refusal 14

pub other_text : (frame : List Float) (bs : List ℕ) → ((question_of bs).asked ≡ Help → ⊥) → 0 < length (ask_text frame bs)
unfolding ask_text
other_text frame bs h = let q = question_of bs in some q.asked frame q.numbers q.doubles h

-- Two outcomes of answering a line that meet one promise coincide: the length, and the whole buffer.
pub one_reply : (frame : List Float) (bs : List ℕ) {old a b : List ℕ} {m n : ℕ} → Wrote 1300 (ask_text frame bs) old a m → Wrote 1300 (ask_text frame bs) old b n → (m ≡ n) × (a ≡ b)
one_reply frame bs = one_wrote
