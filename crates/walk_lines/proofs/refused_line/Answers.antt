-- `refused_line` meets its contract: the word, the refusal's number and a newline. Assumes nothing.
use native.Mathlib.Omega.{arith}
use borrow.Author.Rules.{rules}
use Rattle.text.proofs.Decimals.{field_short20}
use Rattle.text.proofs.Putting.{put_then, put_length}
use Rattle.walk_lines.specs.Lines.{refused_line}
use Rattle.walk_lines.proofs.refused_line.Goals as goal

pub put_byte-requires : goal.put_byte-requires
put_byte-requires c =
    let a = c.put_word-start.ensures in
    let b = rw c.from.ensures at c.put_spaced-end.ensures in
    let n = c.number-number.result in
    omega (arith, a.end, put_length a, b.end, put_length b, field_short20 n (search rules))

pub returns : goal.returns
unfolding refused_line
returns c =
    rw (← c.number-number.ensures, ← c.from.ensures) (put_then c.put_word-start.ensures (put_then c.put_spaced-end.ensures c.put_byte.ensures))
