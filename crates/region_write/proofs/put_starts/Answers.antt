-- `put_starts` meets its contract: the loop has put the starts of the faces so far. Assumes nothing.
use mathlib.Core.Path.{refl, ap, ◌∙◌}
use Prim.Native.Nat.{ℕ, ◌*◌}
use native.Mathlib.Omega.{arith}
use borrow.Author.Rules.{rules}
use lib.Seq.{sets}
use Rattle.words.specs.Words.{word_bytes}
use Rattle.words.specs.Rows.{rows_to}
use Rattle.words.proofs.Words.{bytes_length}
use Rattle.words.proofs.Placing.{rows_more}
use Rattle.region_check.specs.Sound.{faces_of}
use Rattle.region_check.specs.Starts.{begins}
use Rattle.region_write.specs.Signed.{place_in}
use Rattle.region_write.specs.Files.{start_bytes}
use Rattle.region_write.proofs.put_starts.Goals as goal

pub loop-face-init : goal.loop-face-init
unfolding rows_to
loop-face-init c = (refl, record { rows = refl })

pub loop-face-preserved : goal.loop-face-preserved
loop-face-preserved c =
    let l = c.loop-face in
    let a = c.args in
    let stored = c.put_word.ensures ∙ ap (λ (x : ℕ). sets l.out (4 * l.face) (word_bytes x)) c.begin_of-start.ensures.0 in (
      search rules,
      record { rows = stored ∙ rw l.invariant.1.rows (rows_more 4 (start_bytes (place_in a.rows.now) a.count) (λ f. bytes_length (begins (faces_of (place_in a.rows.now)) a.count f)) l.face a.out.now (omega arith)) },
    )
