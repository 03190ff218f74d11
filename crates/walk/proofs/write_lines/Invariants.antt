-- `write_lines` meets its contract: whole lines so far, and a stop where the loop ends. Assumes nothing.
use Prim.Native.Nat.{◌-◌}
use lib.ListN.{length}
use Rattle.walk.specs.Writing.{Begun}
use Rattle.walk.proofs.write_lines.Given as goal

abbrev pub invariant-loop-w : goal.invariant-loop-w
invariant-loop-w l = Begun l.initial.w.state l.initial.buf l.buf l.w

abbrev pub decreases-loop-w : goal.decreases-loop-w
decreases-loop-w l = length l.initial.buf - l.w.len
