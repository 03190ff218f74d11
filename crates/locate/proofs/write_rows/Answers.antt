-- `write_rows` meets its contract: the loop has filled the rows of the first k vectors. Assumes nothing.
use borrow.Author.Rules.{rules}
use mathlib.Core.Path.{◌≡◌, refl, ap, ◌∙◌}
use Prim.Native.Nat.{◌*◌}
use native.Mathlib.Numerals.{add-one}
use native.Mathlib.Omega.{arith}
use lib.Seq.{sets}
use Rattle.reply.specs.Replies.{Reply}
use Rattle.locate.specs.Locating.{said_located, row_reply}
use Rattle.words.specs.Rows.{rows_to, one_if, count_to}
use Rattle.locate.specs.Batch.{is_refused, row_of, row_at, refused_at}
use Rattle.vec3d.specs.Frame.{vec_at}
use Rattle.words.proofs.Placing.{one_low, rows_more}
use Rattle.locate.proofs.Writing.{row_length}
use Rattle.locate.proofs.Giving.{given_okay}
use mir.Val.{bool_byte}
use Rattle.std.specs.Prelude.{Ok, Err, Result}
use Rattle.std.specs.Result.{is_err}
use Rattle.reply.specs.declared.Refusal.{Refusal}
use Rattle.locate.specs.declared.Spot.{Spot}
use Rattle.locate.proofs.Signed.{number_some}
use Rattle.locate.proofs.write_rows.Goals as goal

-- an outcome counts as 1 where it is refused
counted_once : (x : Result Spot Refusal) → bool_byte (is_err x) ≡ one_if (is_refused (said_located x))
counted_once (Ok t) = refl
counted_once (Err r) = rw (number_some r) refl

pub loop-k-init : goal.loop-k-init
unfolding rows_to count_to
loop-k-init c = (omega arith, refl, refl, record { rows = refl }, c.face_ahead-ahead.ensures)

pub of-requires : goal.of-requires
of-requires c =
    let located : let a = c.args in said_located c.place_of-located.result ≡ row_reply a.frame.now a.level.0 (vec_at a.input.now (3 * c.loop-k.k)) = rw c.vec_at-p.ensures at c.place_of-located.ensures in
    let a = c.args in
    given_okay a.frame.now a.level.0 (vec_at a.input.now (3 * c.loop-k.k)) c.requires.0 c.place_of-located.result located

pub loop-k-preserved : goal.loop-k-preserved
unfolding count_to
loop-k-preserved c =
    let a = c.args in
    let row = row_at a.frame.now a.level.0 a.input.now in
    -- what was located is what becomes of vector k
    let located : said_located c.place_of-located.result ≡ row_reply a.frame.now a.level.0 (vec_at a.input.now (3 * c.loop-k.k)) = rw c.vec_at-p.ensures at c.place_of-located.ensures in
    -- the count goes up by one where the row is refused
    let counted : c.from-refused.result ≡ one_if (refused_at a.frame.now a.level.0 a.input.now c.loop-k.k) = c.from-refused.ensures ∙ (ap bool_byte c.is_err.ensures.value ∙ counted_once c.place_of-located.result) ∙ ap (λ (r : Reply). one_if (is_refused r)) located in
    -- the row is stored where it belongs
    let stored : c.put_row.new.out ≡ sets c.loop-k.out (4 * c.loop-k.k) (row c.loop-k.k) = c.put_row.ensures ∙ ap (sets _ _) (c.of.ensures ∙ ap row_of located) in
    let low = one_low (refused_at a.frame.now a.level.0 a.input.now c.loop-k.k) in
    let done = c.loop-k.invariant in (
      omega (arith, counted, low),
      search rules,
      rw (add-one, counted, done.2) refl,
      record {
        rows = stored ∙ rw done.3.rows (rows_more 4 row (row_length a.frame.now a.level.0 a.input.now) c.loop-k.k a.out.now (omega arith));
      },
      c.face_ahead-ahead-in-loop-k.ensures,
    )
