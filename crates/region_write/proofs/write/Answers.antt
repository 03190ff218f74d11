-- `write` meets its contract: the tests decide; the records are put, and the tail into the part that is lent. Assumes nothing.
use mathlib.Core.Path.{◌≡◌, sym, ◌∙◌}
use Prim.Native.Nat.{◌+◌, ◌*◌}
use native.Mathlib.Omega.{arith}
use lib.ListN.{length}
use Rattle.reply.specs.Replies.{fine}
use Rattle.region_write.specs.Signed.{place_in}
use Rattle.region_write.specs.Writing.{row_count, write_verdict}
use Rattle.region_write.proofs.Putting.{out_long, lent_long, file_put}
use Rattle.region_write.proofs.Ready.{Ready, ready, write_answers}
use Rattle.region_write.proofs.write.Goals as goal

pub put_places-requires : goal.put_places-requires
put_places-requires c =
    let entered : let a = c.args in write_verdict a.level.0 a.rows.now (length a.out.now) ≡ fine = sym c.write_verdict.ensures ∙ c.in_ok-write_verdict.was in
    let able : let a = c.args in Ready a.level.0 a.rows.now (length a.out.now) = let a = c.args in ready a.level.0 a.rows.now (length a.out.now) entered in
    omega (arith, able.room)

pub returns : goal.returns
returns c =
    let entered : let a = c.args in write_verdict a.level.0 a.rows.now (length a.out.now) ≡ fine = sym c.write_verdict.ensures ∙ c.in_ok-write_verdict.was in
    let able : let a = c.args in Ready a.level.0 a.rows.now (length a.out.now) = let a = c.args in ready a.level.0 a.rows.now (length a.out.now) entered in
    let a = c.args in
    write_answers a.level.0 a.rows.now a.out.now _ entered
    (file_put (place_in a.rows.now) (row_count a.rows.now) a.level.0 a.out.now _ able.room c.put_places.ensures.rows _ c.put_tail.ensures)

pub put_tail-requires : goal.put_tail-requires
put_tail-requires c =
    let entered : let a = c.args in write_verdict a.level.0 a.rows.now (length a.out.now) ≡ fine = sym c.write_verdict.ensures ∙ c.in_ok-write_verdict.was in
    let able : let a = c.args in Ready a.level.0 a.rows.now (length a.out.now) = let a = c.args in ready a.level.0 a.rows.now (length a.out.now) entered in
    let a = c.args in
    let k = able in
    record { count_in_bounds = (omega arith, k.sound); count_bound = (k.few, lent_long (place_in a.rows.now) (row_count a.rows.now) a.level.0 a.out.now _ k.room c.put_places.ensures.rows) }

pub slice_bounds-put_tail-count : goal.slice_bounds-put_tail-count
slice_bounds-put_tail-count c =
    let entered : let a = c.args in write_verdict a.level.0 a.rows.now (length a.out.now) ≡ fine = sym c.write_verdict.ensures ∙ c.in_ok-write_verdict.was in
    let able : let a = c.args in Ready a.level.0 a.rows.now (length a.out.now) = let a = c.args in ready a.level.0 a.rows.now (length a.out.now) entered in
    let wrote_long : let a = c.args in length c.put_places.new.out ≡ 88 + 16 * row_count a.rows.now = let a = c.args in
    out_long (place_in a.rows.now) (row_count a.rows.now) a.level.0 a.out.now _ able.room c.put_places.ensures.rows in
    omega (arith, wrote_long)

pub slice_bounds-put_tail-start : goal.slice_bounds-put_tail-start
slice_bounds-put_tail-start c =
    let entered : let a = c.args in write_verdict a.level.0 a.rows.now (length a.out.now) ≡ fine = sym c.write_verdict.ensures ∙ c.in_ok-write_verdict.was in
    let able : let a = c.args in Ready a.level.0 a.rows.now (length a.out.now) = let a = c.args in ready a.level.0 a.rows.now (length a.out.now) entered in
    let wrote_long : let a = c.args in length c.put_places.new.out ≡ 88 + 16 * row_count a.rows.now = let a = c.args in
    out_long (place_in a.rows.now) (row_count a.rows.now) a.level.0 a.out.now _ able.room c.put_places.ensures.rows in
    omega (arith, wrote_long)
