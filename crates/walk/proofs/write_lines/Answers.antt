-- `write_lines` meets its contract: whole lines so far, and a stop where the loop ends. Assumes nothing.
use native.Mathlib.Omega.{arith}
use Rattle.walk.proofs.Writing.{at_start, goes_on, grows}
use Rattle.walk.proofs.write_lines.Goals as goal

pub loop-w-init : goal.loop-w-init
loop-w-init c = at_start c.args.state c.args.buf.now

pub one_more-w-requires : goal.one_more-w-requires
one_more-w-requires c = c.loop-w.invariant.within

pub returns-then-w-at : goal.returns-then-w-at
returns-then-w-at c =
    let l = c.loop-w in
    let o = c.one_more-w in
    let g = goes_on l.w o.result l.invariant o.ensures in
    record { begun = g.0; stopped = g.1 (omega arith) }

pub loop-w-preserved : goal.loop-w-preserved
loop-w-preserved c = let l = c.loop-w in let o = c.one_more-w in (goes_on l.w o.result l.invariant o.ensures).0

pub loop-w-smaller : goal.loop-w-smaller
loop-w-smaller c =
    let l = c.loop-w in
    let o = c.one_more-w in
    let b = (goes_on l.w o.result l.invariant o.ensures).0 in
    omega (arith, grows l.w o.result o.ensures, b.within, b.same)
