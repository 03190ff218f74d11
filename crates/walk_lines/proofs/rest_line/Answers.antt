-- `rest_line` meets its contract: the word, the place, the number of steps and a newline. Assumes nothing.
use native.Mathlib.Omega.{arith}
use borrow.Author.Rules.{rules}
use Rattle.text.proofs.Decimals.{field_short20}
use Rattle.text.proofs.Putting.{put_then, put_length}
use Rattle.walk_lines.specs.Lines.{rest_line}
use Rattle.walk_lines.proofs.Lengths.{Fits, place_short}
use Rattle.walk_lines.proofs.rest_line.Goals as goal

pub put_spaced-end-requires : goal.put_spaced-end-requires
put_spaced-end-requires c =
    let fits : Fits c.args.rested.place = record { face = search rules; i = search rules; j = search rules; k = search rules } in
    let a = c.put_word-start.ensures in
    let b = c.put_place-placed.ensures in
    omega (arith, a.end, put_length a, b.end, put_length b, place_short c.args.rested.place fits)

pub put_byte-requires : goal.put_byte-requires
put_byte-requires c =
    let fits : Fits c.args.rested.place = record { face = search rules; i = search rules; j = search rules; k = search rules } in
    let a = c.put_word-start.ensures in
    let b = c.put_place-placed.ensures in
    let d = c.put_spaced-end.ensures in
    let place = place_short c.args.rested.place fits in
    let steps = field_short20 c.args.rested.steps (search rules) in
    omega (arith, a.end, put_length a, b.end, put_length b, d.end, put_length d)

pub returns : goal.returns
unfolding rest_line
returns c =
    put_then c.put_word-start.ensures
    (put_then c.put_place-placed.ensures (put_then c.put_spaced-end.ensures c.put_byte.ensures))
