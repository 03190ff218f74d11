-- Rows of a batch: each is four numbers, there is room for them, and what the batch's tests lead to. Assumes nothing.
use mathlib.Core.Path.{◌≡◌, refl, sym, ◌∙◌}
use mathlib.Core.Bool.{false, not, ◌||◌}
use mathlib.Core.List.{List, [], ◌∷◌}
use Prim.Native.Nat.{ℕ, ◌+◌, ◌*◌, ◌/◌, ◌%◌, ◌≤◌}
use native.Mathlib.Omega.{arith}
use lib.Dec.{eqb, ltb}
use lib.IntN.{ℤ}
use lib.ListN.{length}
use lib.Ieee.{Float}
use borrow.Author.Tests.{ltb-false}
use Rattle.std.specs.Prelude.{Ok, Err}
use Rattle.reply.specs.declared.Refusal.{Refusal}
use Rattle.reply.specs.declared.Refusal.TheVariants.{BadFrame, BadRows, BadLevel}
use Rattle.reply.specs.Replies.{first, answer, refusal, reply, Verdict, fine}
use Rattle.reply.proofs.Entries.{passed, neither}
use Rattle.level.specs.Levels.{bad_cell}
use Rattle.vec3d.specs.Frame.{vec_at, bad_frame}
use Rattle.locate.specs.declared.Spot.{Spot}
use Rattle.locate.specs.Locating.{Passed, spot_of, spot_values, row_verdict}
use Rattle.words.specs.Rows.{count_to, between}
use Rattle.locate.specs.Batch.{row_of, row_at, refused_at, bad_rows, reasons_for, batch_verdict, rows_by, batch_outcome}
use Rattle.locate.proofs.Signed.{number_some}

reply_row : (v : Verdict) (t : Spot) → length (row_of (reply 6 v (spot_values t))) ≡ 4
reply_row (Ok _) t = refl
reply_row (Err r) t = rw (number_some r)

pub row_length : (s : List Float) (l : ℕ) (input : List Float) (k : ℕ) → length (row_at s l input k) ≡ 4
row_length s l input k = reply_row (row_verdict s l (vec_at input (3 * k))) (spot_of s l (vec_at input (3 * k)))

-- where the rows pass, they are there
rows_fit : (ins outs start : ℕ) → bad_rows ins outs start ≡ false → 4 * start + 4 * (ins / 3) ≤ outs
unfolding bad_rows
rows_fit ins outs start e =
    omega (arith, ltb-false (outs / 4) (start + ins / 3) (neither (not (eqb (ins % 3) 0) || not (eqb (outs % 4) 0)) (ltb (outs / 4) (start + ins / 3)) e).1)

-- what a batch whose tests find nothing knows
pub record Ready (s : List Float) (l ins outs start : ℕ) : Type 0 where
  pub passed : Passed s l
  pub room : 4 * start + 4 * (ins / 3) ≤ outs

pub ready : (s : List Float) (l ins outs start : ℕ) → first (reasons_for s l ins outs start) ≡ fine → Ready s l ins outs start
ready s l ins outs start e =
    let f = passed (bad_frame s) BadFrame _ e in
    let r = passed (bad_rows ins outs start) BadRows _ f.1 in
    let c = passed (bad_cell l) BadLevel fine r.1 in
    record { passed = record { frame = f.0; level = ltb-false 15 l c.0 }; room = rows_fit ins outs start r.0 }

module _ (s : List Float) (l : ℕ) (input : List Float) (out : List ℤ) (start : ℕ) where
  abbrev counted : List ℕ
  counted = count_to (refused_at s l input) (length input / 3) ∷ []

  abbrev filled : List ℤ
  filled = between 4 (row_at s l input) start (length input / 3) out

  -- what the outcome is by its verdict
  outcome_by : (v : Verdict) → batch_verdict s l input out start ≡ v
      → record { said = reply 1 v counted; rows = rows_by v filled out } ≡ batch_outcome s l input out start
  outcome_by v e = λ k. let w = sym e k in record { said = reply 1 w counted; rows = rows_by w filled out }

  pub batch_answers : (n : ℕ) (new : List ℤ) → batch_verdict s l input out start ≡ fine → n ≡ count_to (refused_at s l input) (length input / 3) → new ≡ filled
      → record { said = answer (n ∷ []); rows = new } ≡ batch_outcome s l input out start
  batch_answers n new e p q = (λ k. record { said = answer (p k ∷ []); rows = q k }) ∙ outcome_by fine e

  pub batch_refuses : (r : Refusal) → batch_verdict s l input out start ≡ Err r → record { said = refusal 1 r; rows = out } ≡ batch_outcome s l input out start
  batch_refuses r e = outcome_by (Err r) e
