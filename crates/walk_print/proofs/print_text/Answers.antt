-- `print_text` meets its contract: each turn hands over the next bytes of the text, what is left of it falls, and at the end nothing is. Assumes nothing.
use native.Mathlib.Omega.{arith}
use lib.ListN.{length-take}
use Rattle.walk.proofs.Laws.{text_goes_on, text_shrinks, progress}
use Rattle.walk_print.proofs.print_text.Invariants.{filled}
use Rattle.walk_print.proofs.print_text.Goals as goal

pub loop-w-init : goal.loop-w-init
loop-w-init c = filled (omega arith) c.write_lines-w.ensures

pub slice_bounds-hand_over-end : goal.slice_bounds-hand_over-end
slice_bounds-hand_over-end c =
    let h = c.loop-w.invariant.wrote.begun.within in
    simp length-take (omega arith)

pub hand_over-requires : goal.hand_over-requires
hand_over-requires c = text_goes_on c.loop-w.invariant.wrote

pub loop-w-smaller : goal.loop-w-smaller
loop-w-smaller c =
    omega (arith, text_shrinks c.write_lines-w-in-loop-w.ensures, c.loop-w-test.true)

pub loop-w-preserved : goal.loop-w-preserved
loop-w-preserved c =
    let i = c.loop-w.invariant in
    filled (omega (arith, i.room, i.wrote.begun.same)) c.write_lines-w-in-loop-w.ensures

pub nothing_left-requires : goal.nothing_left-requires
nothing_left-requires c =
    let i = c.loop-w.invariant in
    progress i.wrote i.room (omega (arith, c.loop-w-test.false))
