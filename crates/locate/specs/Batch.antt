-- A batch. Document 01: "rows of four 32-bit signed numbers, beginning at a row that the caller names: face, i, j, k; or, for a refused row,
-- minus the refusal, 0, 0, 0. It returns how many of its rows were refused. All other rows keep their contents."
use Rattle.locate.specs.declared.Spot.{Spot}
use Rattle.reply.specs.declared.Refusal.{Refusal}
use Rattle.std.specs.Prelude.{◌≡◌, Bool, not, ◌||◌, List, [], ◌∷◌, ℕ, ◌+◌, ◌*◌, ◌/◌, ◌%◌, ◌<◌, ℤ, pos, neg_ℤ, ltb, eqb, length, take, Float, Ok, Err, Result}
use Rattle.reply.specs.Choice.{pick}
use Rattle.reply.specs.declared.Refusal.TheVariants.{BadFrame, BadRows, BadLevel}
use Rattle.reply.specs.Replies.{Reply, Reason, when, first, reply, zeros, Verdict, fine, said}
use Rattle.level.specs.Levels.{bad_cell}
use Rattle.vec3d.specs.Vectors.{vector_verdict}
use Rattle.vec3d.specs.Frame.{vec_at, bad_frame}
use Rattle.faceijk.specs.Places.{Okay}
use Rattle.locate.specs.declared.Row.{Row}
use Rattle.locate.specs.Locating.{near_face, row_reply}
use Rattle.words.specs.Rows.{count_to, between}

abbrev pub signed : List ℕ → List ℤ
signed [] = []
signed (n ∷ ns) = pos n ∷ signed ns

-- a reply as a row, which keeps four numbers: the place without the leftovers, or minus the refusal and zeros
abbrev pub is_refused : Reply → Bool
is_refused r = not (eqb r.number 0)

abbrev pub row_of : Reply → List ℤ
row_of r = pick (is_refused r) (neg_ℤ (pos r.number) ∷ signed (zeros 3)) (signed (take 4 r.values))

abbrev pub cells : Row → List ℤ
cells r = r.face ∷ r.i ∷ r.j ∷ r.k ∷ []

-- the row of vector k of the input, and whether it is refused
abbrev pub row_at : List Float → ℕ → List Float → ℕ → List ℤ
row_at s l input k = row_of (row_reply s l (vec_at input (3 * k)))

abbrev pub refused_at : List Float → ℕ → List Float → ℕ → Bool
refused_at s l input k = is_refused (row_reply s l (vec_at input (3 * k)))

-- what the code finds one row early: of a vector k of the input that passes, its nearest face
abbrev pub Ahead : List Float → List Float → ℕ → ℕ → Type 0
Ahead s input k face = k < length input / 3 → vector_verdict (vec_at input (3 * k)) ≡ fine → face ≡ near_face s (vec_at input (3 * k))

-- BadRows: input not a multiple of 3, output not of 4, or first row + n beyond the rows
unfoldable pub bad_rows : ℕ → ℕ → ℕ → Bool
bad_rows ins outs start = not (eqb (ins % 3) 0) || not (eqb (outs % 4) 0) || ltb (outs / 4) (start + ins / 3)

abbrev pub reasons_for : List Float → ℕ → ℕ → ℕ → ℕ → List Reason
reasons_for s l ins outs start = when (bad_frame s) BadFrame ∷ when (bad_rows ins outs start) BadRows ∷ when (bad_cell l) BadLevel ∷ []

abbrev pub batch_reasons : List Float → ℕ → List Float → List ℤ → ℕ → List Reason
batch_reasons s l input out start = reasons_for s l (length input) (length out) start

abbrev pub batch_verdict : List Float → ℕ → List Float → List ℤ → ℕ → Verdict
batch_verdict s l input out start = first (batch_reasons s l input out start)

-- the entry, in the paper's numbers: how many rows were refused
abbrev pub said_batch : Result ℕ Refusal → Reply
said_batch = said 1 (λ n. n ∷ [])

abbrev pub batch_reply : List Float → ℕ → List Float → List ℤ → ℕ → Reply
batch_reply s l input out start =
    reply 1 (batch_verdict s l input out start) (count_to (refused_at s l input) (length input / 3) ∷ [])

-- what the lent rows then hold: a whole batch that is refused writes nothing
abbrev pub rows_by : Verdict → List ℤ → List ℤ → List ℤ
rows_by (Ok _) new old = new
rows_by (Err r) new old = old

abbrev pub batch_rows : List Float → ℕ → List Float → List ℤ → ℕ → List ℤ
batch_rows s l input out start =
    rows_by (batch_verdict s l input out start) (between 4 (row_at s l input) start (length input / 3) out) out

pub record Outcome : Type 0 where
  pub said : Reply
  pub rows : List ℤ

abbrev pub batch_outcome : List Float → ℕ → List Float → List ℤ → ℕ → Outcome
batch_outcome s l input out start = record { said = batch_reply s l input out start; rows = batch_rows s l input out start }

-- a place that may be given out can be written as signed numbers
abbrev pub Given : Result Spot Refusal → Type 0
Given (Ok t) = Okay t.place
Given (Err r) = Unit
