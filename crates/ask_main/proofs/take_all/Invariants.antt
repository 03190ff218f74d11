-- `take_all` meets its contract: no answer is held from turn to turn. Assumes nothing.
use Rattle.std.proofs.Common.{◌≡◌}
use Rattle.ask_main.proofs.take_all.Given as goal

abbrev pub invariant-loop-turn : goal.invariant-loop-turn
invariant-loop-turn g l = l.answers.len ≡ 0
