-- `write_line` meets its contract: the values that are shown, and a newline. Assumes nothing.
use mathlib.Core.Path.{◌≡◌, sym, ◌∙◌}
use native.Mathlib.Omega.{arith}
use lib.ListN.{get_or}
use Rattle.text.proofs.Putting.{put_then, put_length}
use Rattle.lent.specs.Lent.{bits_of}
use Rattle.ask_call.specs.Replies.{values_in}
use Rattle.ask_write.proofs.Lengths.{line_of}
use Rattle.ask_write.proofs.Reading.{nothing_read, value_is}
use Rattle.ask_write.proofs.write_line.Goals as goal

pub put_values-end-requires : goal.put_values-end-requires
put_values-end-requires c = (c.requires.0, c.shown.ensures.1)

pub put_byte-requires : goal.put_byte-requires
put_byte-requires c = let p = c.put_values-end.ensures in omega (arith, p.1, put_length p.0)

pub returns : goal.returns
returns c =
    let w = c.args.kinds.now in
    let ns = c.args.a.numbers in
    let ds = bits_of c.args.a.doubles in
    let p = c.put_values-end.ensures in
    let n = c.shown in
    let first : get_or (values_in w ns ds) 0 0 ≡ c.value_at-first.result = value_is w ns ds 0 0 c.requires.1 (omega arith) (nothing_read w ns ds) ∙ sym c.value_at-first.ensures in
    let q = c.put_byte.ensures in
    (rw (line_of w (values_in w ns ds) c.requires.1, first, ← n.ensures.0) (put_then p.0 q), omega (arith, p.1, q.end))
