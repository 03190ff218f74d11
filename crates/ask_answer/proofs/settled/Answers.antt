-- `settled` meets its contract: what the C face gives for settling. Assumes nothing.
use mathlib.Core.Path.{refl}
use lib.Ieee.{to_bits, of_bits}
use Rattle.ask_call.specs.Replies.{number_at, flag_at, place_at}
use Rattle.ask_call.proofs.Calls.{settle}
use Rattle.ask_answer.proofs.settled.Goals as goal

pub returns : goal.returns
unfolding to_bits of_bits
returns c =
    let n = c.args.n in
    rw c.status.ensures (settle refl refl (place_at n 0 3) (number_at n 1) (flag_at n 2) c.settle-outcome.ensures)
