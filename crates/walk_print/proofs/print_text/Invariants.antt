-- `print_text` meets its contract: each turn hands over the next bytes of the text, what is left of it falls, and at the end nothing is. Assumes nothing.
use mathlib.Core.List.{List}
use Prim.Native.Nat.{ℕ, ◌+◌, ◌≤◌}
use lib.ListN.{length}
use Rattle.walk.specs.declared.State.{State}
use Rattle.walk.specs.declared.Written.{Written}
use Rattle.walk.specs.Texts.{text_of}
use Rattle.walk.specs.Writing.{Wrote}
use Rattle.walk_print.proofs.print_text.Given as goal

-- the buffer, which holds the longest line, was filled by a call from this state
pub record Filled (buffer : List ℕ) (from : State) (w : Written) : Type 0 where
  pub before : List ℕ
  pub room : 70 ≤ length before
  pub wrote : Wrote from before buffer w

pub filled : {old buffer : List ℕ} {from : State} {w : Written} → 70 ≤ length old → Wrote from old buffer w → Filled buffer from w
filled h o = record { before = _; room = h; wrote = o }

abbrev pub invariant-loop-w : goal.invariant-loop-w
invariant-loop-w l = Filled l.buffer l.from l.w

abbrev pub decreases-loop-w : goal.decreases-loop-w
decreases-loop-w l = l.w.len + length (text_of l.w.state)
