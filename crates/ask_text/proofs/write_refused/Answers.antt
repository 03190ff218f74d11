-- `write_refused` meets its contract: the word, the number, the name and a newline. Assumes nothing.
use borrow.Author.Rules.{rules}
use Prim.Native.Nat.{◌≤◌}
use native.Mathlib.Omega.{arith}
use lib.ListN.{length}
use Rattle.text.specs.Numbers.{field}
use Rattle.text.proofs.Decimals.{field_short10}
use Rattle.text.proofs.Putting.{put_then, put_length}
use Rattle.ask_text.specs.Texts.{refused_text}
use Rattle.ask_text.proofs.Names.{name_short}
use Rattle.ask_text.proofs.write_refused.Goals as goal

pub put_byte-next-requires : goal.put_byte-next-requires
put_byte-next-requires c =
    let few : length (field c.args.number) ≤ 11 = field_short10 c.args.number (search rules) in
    let a = c.put_word-start.ensures in
    let b = c.put_spaced-numbered.ensures in
    omega (arith, c.requires, a.end, put_length a, b.end, put_length b, few)

pub put_name-end-requires : goal.put_name-end-requires
put_name-end-requires c =
    let few : length (field c.args.number) ≤ 11 = field_short10 c.args.number (search rules) in
    let a = c.put_word-start.ensures in
    let b = c.put_spaced-numbered.ensures in
    let d = c.put_byte-next.ensures in
    (c.requires.1, omega (arith, c.requires, a.end, put_length a, b.end, put_length b, d.end, put_length d, few))

pub put_byte-requires : goal.put_byte-requires
put_byte-requires c =
    let few : length (field c.args.number) ≤ 11 = field_short10 c.args.number (search rules) in
    let a = c.put_word-start.ensures in
    let b = c.put_spaced-numbered.ensures in
    let d = c.put_byte-next.ensures in
    let e = c.put_name-end.ensures in
    let short = few in
    let name = name_short c.args.number in
    omega (arith, c.requires, a.end, put_length a, b.end, put_length b, d.end, put_length d, e.end, put_length e)

pub returns : goal.returns
unfolding refused_text
returns c =
    let few : length (field c.args.number) ≤ 11 = field_short10 c.args.number (search rules) in
    let a = c.put_word-start.ensures in
    let b = c.put_spaced-numbered.ensures in
    let d = c.put_byte-next.ensures in
    let e = c.put_name-end.ensures in
    let f = c.put_byte.ensures in
    let short = few in
    let name = name_short c.args.number in
    (put_then a (put_then b (put_then d (put_then e f))), omega (arith, a.end, b.end, d.end, e.end, f.end))
