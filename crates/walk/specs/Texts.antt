-- What `walk` prints: `from`, an `over` line for each step over an edge, `rest` with the number of steps; or a refusal and nothing else.
use Rattle.reply.specs.Replies.{Verdict}
use Rattle.std.specs.Prelude.{◌≡◌, Bool, false, List, [], ◌∷◌, ◌++◌, ℕ, zero, suc, ltb, Ok, Err, Option, Some, None}
use Rattle.reply.specs.Choice.{pick}
use Rattle.reply.specs.declared.Refusal.TheVariants.{BadLine}
use Rattle.level.specs.declared.Grid.{Grid}
use Rattle.level.specs.Levels.{grid_of}
use Rattle.faceijk.specs.declared.Place.{Place}
use Rattle.faceijk.specs.declared.Rested.{Rested}
use Rattle.faceijk.specs.declared.Overage.{Overage}
use Rattle.faceijk.specs.declared.Overage.TheVariants.{FaceEdge, NewFace}
use Rattle.faceijk.specs.Places.{sum_at, QAt, on_grid_verdict}
use Rattle.faceijk.specs.Crossing.{crossing_of, settle_from}
use Rattle.walk_lines.specs.declared.Line.{Line}
use Rattle.walk_lines.specs.Lines.{place_line, from_word, over_word, rest_line, refused_line}
use Rattle.walk_question.specs.declared.Question.{Question}
use Rattle.walk_question.specs.Reading.{Read}
use Rattle.walk_question.specs.Fields.{reading_of}
use Rattle.walk.specs.declared.Walk.{Walk}
use Rattle.walk.specs.declared.State.{State}

-- where a crossing leads on: `beyond` says whether it was a step over an edge
abbrev pub onward : (Place → List Place) → Bool → Overage → Place → List Place
onward again beyond NewFace q = q ∷ again q
onward again beyond FaceEdge q = pick beyond (q ∷ []) []
onward again beyond Overage.None q = []

-- the places that settling steps to, t of them at the most: crossing repeated without the turn while the answer is NewFace. As many as Q says are always enough
unfoldable pub path_from : ℕ → Grid → Place → List Place
path_from zero g p = []
path_from (suc t) g p =
    let c = crossing_of false g p in
    onward (path_from t g) (ltb g.limit (sum_at p)) c.overage c.place

unfoldable pub path : Grid → Place → List Place
path g p = path_from (QAt p) g p

-- an `over` line for each step
abbrev pub overs : List Place → List ℕ
overs [] = []
overs (p ∷ ps) = place_line over_word p ++ overs ps

-- what is printed where the tests find nothing, the refusal else
abbrev pub told : Verdict → List ℕ → List ℕ
told (Ok _) text = text
told (Err r) text = refused_line r

abbrev pub grid_at : Question → Grid
grid_at q = grid_of q.level.0 q.substrate

abbrev pub rest_of : Question → Rested
rest_of q = settle_from (QAt q.place) (grid_at q) q.place 0

-- the text for a question, and for an input: 14 comes before all
unfoldable pub question_text : Question → List ℕ
question_text q =
    told (on_grid_verdict q.place q.level.0)
    (place_line from_word q.place ++ (overs (path (grid_at q) q.place) ++ rest_line (rest_of q)))

abbrev pub reading_text : Option Question → List ℕ
reading_text (Some q) = question_text q
reading_text None = refused_line BadLine

abbrev pub input_text : List ℕ → List ℕ
input_text bs = reading_text (reading_of bs)

-- the text that a state has still to print. A place that no walk reaches may be refused there
abbrev pub grid_in : Walk → Grid
grid_in w = grid_of w.level.0 w.substrate

unfoldable pub walking_text : Walk → List ℕ
walking_text w = told (on_grid_verdict w.place w.level.0) (overs (path (grid_in w) w.place) ++ rest_line w.rest)

abbrev pub text_of : State → List ℕ
text_of (State.Starting w) = place_line from_word w.place ++ walking_text w
text_of (State.Walking w) = walking_text w
text_of (State.Refusing r) = refused_line r
text_of State.Finished = []

-- the state in which a walk begins
abbrev pub beginning : Question → Walk
beginning q = record { place = q.place; rest = rest_of q; level = q.level; substrate = q.substrate }

abbrev pub begun_with : Verdict → Walk → State
begun_with (Ok _) w = State.Starting w
begun_with (Err r) w = State.Refusing r

unfoldable pub begun_at : Question → State
begun_at q = begun_with (on_grid_verdict q.place q.level.0) (beginning q)

abbrev pub begun_from : Option Question → State
begun_from (Some q) = begun_at q
begun_from None = State.Refusing BadLine

-- the walk of an input begins in this state: the input is read so, as the question whose text it is or as malformed, and the state is that of the reading
pub record Begins (input : List ℕ) (s : State) : Type 0 where
  pub reading : Option Question
  pub read : Read input reading
  pub state : s ≡ begun_from reading

-- the next line of a state, and the state after it
abbrev pub moved_to : Walk → Place → Walk
moved_to w q = record { place = q; rest = w.rest; level = w.level; substrate = w.substrate }

abbrev pub onward_step : Bool → Walk → Place → Option (Line × State)
onward_step beyond w q = pick beyond (Some (Line.Over q, State.Walking (moved_to w q))) (Some (Line.Rest w.rest, State.Finished))

abbrev pub told_step : Verdict → Option (Line × State) → Option (Line × State)
told_step (Ok _) s = s
told_step (Err r) s = Some (Line.Refused r, State.Finished)

unfoldable pub walking_step : Walk → Option (Line × State)
walking_step w =
    told_step (on_grid_verdict w.place w.level.0)
    (onward_step (ltb (grid_in w).limit (sum_at w.place)) w (crossing_of false (grid_in w) w.place).place)

abbrev pub step_of : State → Option (Line × State)
step_of (State.Starting w) = Some (Line.From w.place, State.Walking w)
step_of (State.Walking w) = walking_step w
step_of (State.Refusing r) = Some (Line.Refused r, State.Finished)
step_of State.Finished = None
