-- What a batch leaves in the lent rows, row by row. Assumes nothing.
use mathlib.Core.Path.{◌≡◌, refl, sym, ap, ◌∙◌}
use mathlib.Core.List.{List, [], ◌++◌}
use Prim.Native.Nat.{ℕ, zero, suc, ◌+◌, ◌*◌, ◌/◌, ◌≤◌, ◌<◌}
use native.Mathlib.Omega.{arith}
use borrow.Author.Tests.{le-ltb}
use lib.IntN.{ℤ}
use lib.ListN.{length, take, drop, take-append-drop, length-take, length-drop}
use lib.Seq.{take_at, drop_at, drop-drop, drop-append-le, take-append-le}
use lib.Ieee.{Float}
use Rattle.reply.specs.Replies.{Verdict, fine}
use Rattle.std.specs.Prelude.{Ok, Err}
use Rattle.vec3d.specs.declared.Vec3d.{Vec3d}
use Rattle.vec3d.specs.Frame.{vec_at}
use Rattle.locate.specs.Locating.{Passed, row_reply, locate_reply}
use Rattle.words.specs.Rows.{rows_to, count_to, between}
use Rattle.locate.specs.Batch.{row_of, is_refused, row_at, refused_at, batch_verdict, batch_rows, rows_by}
use Rattle.words.proofs.Placing.{rows_length, rows_at}
use Rattle.locate.proofs.Writing.{row_length, Ready, ready}

-- with a frame and a level that have passed, a row's reply is the entry's
pub same_reply : (s : List Float) (l : ℕ) (p : Vec3d) → Passed s l → row_reply s l p ≡ locate_reply s l p
same_reply s l p h = rw (h.frame, le-ltb 15 l h.level)

module _ (s : List Float) (l : ℕ) (input : List Float) (out : List ℤ) (start : ℕ) (clear : batch_verdict s l input out start ≡ fine) where
  abbrev n : ℕ
  n = length input / 3

  abbrev new : List ℤ
  new = batch_rows s l input out start

  able : Ready s l (length input) (length out) start
  able = ready s l (length input) (length out) start clear

  rows : List ℤ
  rows = rows_to (row_at s l input) n

  written : new ≡ take (4 * start) out ++ (rows ++ drop (4 * start + 4 * n) out)
  unfolding rows
  written = ap (λ (v : Verdict). rows_by v (between 4 (row_at s l input) start n out) out) clear

  before_long : length (take (4 * start) out) ≡ 4 * start
  before_long = simp length-take (omega (arith, able.room))

  -- A row of the batch is what the place entry answers for its vector.
  pub batch_row : (k : ℕ) → k < n → take 4 (drop (4 * (start + k)) new) ≡ row_of (locate_reply s l (vec_at input (3 * k)))
  unfolding rows
  batch_row k h =
      let long = rows_length 4 (row_at s l input) (row_length s l input) n in
      let far : 4 * (start + k) ≡ 4 * start + 4 * k = omega arith in
      let most : 4 * k ≤ length rows = omega arith in
      let room : 4 ≤ length (drop (4 * k) rows) = simp length-drop (omega arith) in
      rw (
        written,
        far,
        ← drop-drop (4 * k) (4 * start) (take (4 * start) out ++ (rows ++ drop (4 * start + 4 * n) out)),
        drop_at (take (4 * start) out) (rows ++ drop (4 * start + 4 * n) out) (4 * start) before_long,
        drop-append-le (4 * k) rows (drop (4 * start + 4 * n) out) most,
        take-append-le 4 (drop (4 * k) rows) (drop (4 * start + 4 * n) out) room,
      )
      (rows_at 4 (row_at s l input) (row_length s l input) n k h ∙ ap row_of (same_reply s l (vec_at input (3 * k)) able.passed))

  -- The rows before the batch keep their contents.
  pub rows_before : take (4 * start) new ≡ take (4 * start) out
  rows_before = rw (written, take_at (take (4 * start) out) (rows ++ drop (4 * start + 4 * n) out) (4 * start) before_long)

  -- The rows after the batch keep theirs.
  pub rows_after : drop (4 * start + 4 * n) new ≡ drop (4 * start + 4 * n) out
  unfolding rows
  rows_after =
      let long = rows_length 4 (row_at s l input) (row_length s l input) n in
      let rest = drop (4 * start + 4 * n) out in
      ap (drop (4 * start + 4 * n)) written
      ∙ sym (drop-drop (4 * n) (4 * start) (take (4 * start) out ++ (rows ++ rest)))
      ∙ ap (drop (4 * n)) (drop_at (take (4 * start) out) (rows ++ rest) (4 * start) before_long)
      ∙ drop_at rows rest (4 * n) long

-- A batch of no vectors writes nothing.
pub none_written : (s : List Float) (l : ℕ) (out : List ℤ) (start : ℕ) → batch_rows s l [] out start ≡ out
unfolding rows_to
none_written s l out start = go (batch_verdict s l [] out start)
  where
    go : (v : Verdict) → rows_by v (between 4 (row_at s l []) start 0 out) out ≡ out
    go (Ok _) =
        let end : 4 * start + 4 * 0 ≡ 4 * start = omega arith in
        ap (λ (k : ℕ). take (4 * start) out ++ drop k out) end ∙ take-append-drop (4 * start) out
    go (Err r) = refl

-- How many rows the batch counts as refused is how many the place entry refuses.
pub batch_count : (s : List Float) (l : ℕ) (input : List Float) (n : ℕ) → Passed s l
    → count_to (refused_at s l input) n ≡ count_to (λ (k : ℕ). is_refused (locate_reply s l (vec_at input (3 * k)))) n
unfolding count_to
batch_count s l input zero h = refl
batch_count s l input (suc n) h =
    rw (batch_count s l input n h, same_reply s l (vec_at input (3 * n)) h)
