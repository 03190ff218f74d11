-- `widened` meets its contract: number by number. Assumes nothing.
use mathlib.Core.Path.{◌≡◌}
use lib.ListN.{length, take}
use Rattle.ask_answer.proofs.widened.Given as goal

abbrev pub invariant-loop-v : goal.invariant-loop-v
invariant-loop-v l = (length l.wide ≡ 25) × (take l.v l.wide ≡ take l.v l.words)
