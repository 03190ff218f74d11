-- `place_line` meets its contract: the word, the place and a newline. Assumes nothing.
use native.Mathlib.Omega.{arith}
use borrow.Author.Rules.{rules}
use Rattle.text.proofs.Putting.{put_then, put_length}
use Rattle.walk_lines.specs.Lines.{place_line}
use Rattle.walk_lines.proofs.Lengths.{Fits, place_short}
use Rattle.walk_lines.proofs.place_line.Goals as goal

pub put_byte-requires : goal.put_byte-requires
put_byte-requires c =
    let fits : Fits c.args.p = record { face = search rules; i = search rules; j = search rules; k = search rules } in
    let a = c.put_word-start.ensures in
    let b = c.put_place-end.ensures in
    omega (arith, a.end, put_length a, b.end, put_length b, place_short c.args.p fits)

pub returns : goal.returns
unfolding place_line
returns c = put_then c.put_word-start.ensures (put_then c.put_place-end.ensures c.put_byte.ensures)
