-- `bad_rows` meets its contract: the test that cannot overflow is the rule's. Assumes nothing.
use mathlib.Core.Bool.{or-true}
use Prim.Native.Nat.{◌+◌, ◌/◌}
use native.Mathlib.Omega.{arith}
use borrow.Author.Tests.{lt-ltb}
use Rattle.locate.specs.Batch.{bad_rows}
use Rattle.words.proofs.Placing.{ltb_shift}
use Rattle.locate.proofs.bad_rows.Goals as goal

pub returns-then-rows-start : goal.returns-then-rows-start
unfolding bad_rows
returns-then-rows-start c =
    let a = c.args in
    rw (lt-ltb (a.outs / 4) (a.start + a.ins / 3) (omega arith), or-true)

pub returns : goal.returns
unfolding bad_rows
returns c = rw (ltb_shift _ _ _ c.if-rows-start.false)
