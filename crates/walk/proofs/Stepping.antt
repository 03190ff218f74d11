-- The text of a state is its next line and the text of the state after it. Assumes nothing.
use mathlib.Core.Path.{◌≡◌, refl, sym, ap, ◌∙◌}
use mathlib.Core.Bool.{Bool, true, false}
use mathlib.Core.List.{List, [], ◌++◌, append_assoc, append-nil}
use Prim.Native.Nat.{ℕ, ◌≤◌, ◌<◌}
use native.Mathlib.Decide.{dec_lt}
use native.Mathlib.Omega.{arith}
use lib.Dec.{ltb}
use borrow.Author.Tests.{lt-ltb, le-ltb}
use Rattle.walk_lines.specs.declared.Line.{Line}
use Rattle.reply.specs.Replies.{Verdict, fine}
use Rattle.std.specs.Prelude.{Ok, Err, Option, Some, None}
use Rattle.faceijk.specs.declared.Place.{Place}
use Rattle.faceijk.specs.Places.{sum_at, on_grid_verdict}
use Rattle.faceijk.specs.Crossing.{step_out, crossing_of}
use Rattle.faceijk.proofs.Taking.{accepted, sound_at, okay_on_grid}
use Rattle.faceijk.proofs.Settling.{okay_out}
use Rattle.walk_lines.specs.Lines.{place_line, over_word, from_word, rest_line, refused_line, line_text}
use Rattle.walk_question.specs.declared.Question.{Question}
use Rattle.walk.specs.declared.Walk.{Walk}
use Rattle.walk.specs.declared.State.{State}
use Rattle.walk.specs.Texts.{path, overs, told, grid_at, rest_of, question_text, reading_text, grid_in, walking_text, text_of, beginning, begun_with, begun_at, begun_from, moved_to, onward_step, told_step, walking_step, step_of}
use Rattle.walk.specs.Writing.{Lines, none, more}
use Rattle.walk.proofs.Paths.{path_on, path_ends, lands}

abbrev pub text_of_step : Option (Line × State) → List ℕ
text_of_step (Some (line, after)) = line_text line ++ text_of after
text_of_step None = []

module _ (w : Walk) (clear : on_grid_verdict w.place w.level.0 ≡ fine) where
  -- a walk that steps: the line of that step, and the text from there
  stepped : (grid_in w).limit < sum_at w.place → overs (path (grid_in w) w.place) ++ rest_line w.rest ≡ text_of_step (onward_step true w (crossing_of false (grid_in w) w.place).place)
  unfolding walking_text
  stepped far =
      let g = grid_in w in
      let a = accepted w.place w.level.0 false clear in
      let sound = sound_at w.level.0 w.substrate a.level in
      let q = step_out false g w.place in
      let there = okay_on_grid q w.level.0 (okay_out g sound w.place a.okay far) a.level in
      ap (λ (x : List Place). overs x ++ rest_line w.rest) (path_on g sound w.place a.okay.taken.flat far) ∙
      (append_assoc (place_line over_word q) (overs (path g q)) (rest_line w.rest) ∙
      (ap (λ (v : Verdict). place_line over_word q ++ told v (overs (path g q) ++ rest_line w.rest)) (sym there) ∙
      ap (λ (x : Place). place_line over_word x ++ walking_text (moved_to w x)) (sym (lands g w.place far))))

  -- a walk that does not: its last line
  stood : sum_at w.place ≤ (grid_in w).limit → overs (path (grid_in w) w.place) ++ rest_line w.rest ≡ rest_line w.rest ++ []
  stood near =
      ap (λ (x : List Place). overs x ++ rest_line w.rest) (path_ends (grid_in w) w.place near) ∙ sym (append-nil (rest_line w.rest))

  on : overs (path (grid_in w) w.place) ++ rest_line w.rest ≡ text_of_step (onward_step (ltb (grid_in w).limit (sum_at w.place)) w (crossing_of false (grid_in w) w.place).place)
  on =
      let step : Bool → List ℕ = λ (b : Bool). text_of_step (onward_step b w (crossing_of false (grid_in w) w.place).place) in
      elim (dec_lt (grid_in w).limit (sum_at w.place)) [
        | yes far ↦ stepped far ∙ ap step (sym (lt-ltb (grid_in w).limit (sum_at w.place) far))
        | no near ↦ let h : sum_at w.place ≤ (grid_in w).limit = omega arith in stood h ∙ ap step (sym (le-ltb (grid_in w).limit (sum_at w.place) h))
      ]

walking : (w : Walk) → walking_text w ≡ text_of_step (walking_step w)
unfolding walking_text walking_step
walking w = go (on_grid_verdict w.place w.level.0) refl
  where
    go : (v : Verdict) → on_grid_verdict w.place w.level.0 ≡ v → told v (overs (path (grid_in w) w.place) ++ rest_line w.rest) ≡ text_of_step (told_step v (onward_step (ltb (grid_in w).limit (sum_at w.place)) w (crossing_of false (grid_in w) w.place).place))
    go (Ok _) e = on w e
    go (Err r) e = sym (append-nil (refused_line r))

pub text_step : (s : State) → text_of s ≡ text_of_step (step_of s)
text_step (State.Starting w) = refl
text_step (State.Walking w) = walking w
text_step (State.Refusing r) = sym (append-nil (refused_line r))
text_step State.Finished = refl

-- the text of a state is the bytes written and the text of the state after them
pub lines_text : {s m : State} {n : ℕ} {bs : List ℕ} → Lines s n bs m → text_of s ≡ bs ++ text_of m
lines_text none = refl
lines_text (more {bs = bs} {m = m} {after = after} {line = line} l e) =
    lines_text l ∙
    (ap (λ (x : List ℕ). bs ++ x) (text_step m ∙ ap text_of_step e) ∙ sym (append_assoc bs (line_text line) (text_of after)))

-- the state in which an input's walk begins has that input's whole text
begins : (q : Question) → text_of (begun_at q) ≡ question_text q
unfolding begun_at question_text walking_text
begins q = go (on_grid_verdict q.place q.level.0) refl
  where
    go : (v : Verdict) → on_grid_verdict q.place q.level.0 ≡ v → text_of (begun_with v (beginning q)) ≡ told v (place_line from_word q.place ++ (overs (path (grid_at q) q.place) ++ rest_line (rest_of q)))
    go (Ok _) e = ap (λ (v : Verdict). place_line from_word q.place ++ told v (overs (path (grid_at q) q.place) ++ rest_line (rest_of q))) e
    go (Err r) e = refl

pub begun_text : (r : Option Question) → text_of (begun_from r) ≡ reading_text r
begun_text (Some q) = begins q
begun_text None = refl
