-- `put_line` meets its contract: the line is written apart, and copied where it fits. Assumes nothing.
use mathlib.Core.Path.{refl, ap}
use native.Mathlib.Omega.{arith}
use lib.ListN.{length}
use Rattle.text.proofs.Putting.{whole}
use Rattle.walk.specs.Writing.{left}
use Rattle.walk.proofs.Writing.{was_put}
use Rattle.walk.proofs.put_line.Goals as goal

pub returns-then-buf-at : goal.returns-then-buf-at
returns-then-buf-at c =
    let w = whole (omega arith) c.write_line-n.ensures in
    left refl refl (omega (arith, c.if-buf-at.true, w.0)) (omega (arith, w.0, w.2, c.bytes-2-1.given))

pub slice_bounds-bytes-end : goal.slice_bounds-bytes-end
slice_bounds-bytes-end c = (whole (omega arith) c.write_line-n.ensures).2

pub slice_bounds-put_word-end : goal.slice_bounds-put_word-end
slice_bounds-put_word-end c =
    let w = whole (omega arith) c.write_line-n.ensures in
    omega (arith, w.0, ap length w.1)

pub put_word-requires : goal.put_word-requires
put_word-requires c =
    let w = whole (omega arith) c.write_line-n.ensures in
    omega (arith, w.0, ap length w.1, c.if-buf-at.false, c.requires)

pub returns : goal.returns
returns c =
    let w = whole (omega arith) c.write_line-n.ensures in
    was_put (omega (arith, w.0, c.if-buf-at.false, c.requires)) (rw w.1 at c.put_word.ensures)
