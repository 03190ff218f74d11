-- `put_places` meets its contract: the loop has put the places of the rows so far. Assumes nothing.
use mathlib.Core.Path.{refl, ap, ◌∙◌}
use Prim.Native.Nat.{◌*◌}
use native.Mathlib.Omega.{arith}
use borrow.Author.Rules.{rules}
use lib.Seq.{sets}
use Rattle.words.specs.Rows.{rows_to}
use Rattle.words.proofs.Placing.{rows_more}
use Rattle.region_write.specs.Signed.{place_in}
use Rattle.region_write.specs.Files.{place_bytes}
use Rattle.region_write.proofs.Putting.{place_length}
use Rattle.region_write.proofs.put_places.Goals as goal

pub loop-row-init : goal.loop-row-init
unfolding rows_to
loop-row-init c = (refl, record { rows = refl })

pub loop-row-preserved : goal.loop-row-preserved
loop-row-preserved c =
    let l = c.loop-row in
    let a = c.args in
    let stored = c.put_place.ensures ∙ ap (λ p. sets l.out (16 * l.row) (place_bytes p)) c.place_in.ensures in
    (search rules, record { rows = stored ∙ rw l.invariant.1.rows (rows_more 16 (λ k. place_bytes (place_in a.rows.now k)) (λ k. place_length (place_in a.rows.now k)) l.row a.out.now (omega arith)) })
