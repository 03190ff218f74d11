-- `put_values` meets its contract: the loop has put the values below its index. Assumes nothing.
use Prim.Native.Nat.{◌*◌, ◌≤◌}
use Rattle.text.specs.Writing.{PutAt}
use Rattle.lent.specs.Lent.{bits_of}
use Rattle.ask_call.specs.Replies.{values_in}
use Rattle.ask_write.specs.Texts.{text_to}
use Rattle.ask_write.proofs.Reading.{Left}
use Rattle.ask_write.proofs.put_values.Given as goal

abbrev pub invariant-loop-k : goal.invariant-loop-k
invariant-loop-k l =
    (l.d ≤ l.k) × (l.at ≤ 21 * l.k) × PutAt (text_to l.kinds (values_in l.kinds l.a.numbers (bits_of l.a.doubles)) l.k) l.initial.buf l.buf 0 l.at × Left l.kinds l.a.numbers (bits_of l.a.doubles) l.k l.d
