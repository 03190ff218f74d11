-- `put_hex` meets its contract: the digits are made apart and copied. Assumes nothing.
use borrow.Author.Rules.{rules}
use native.Mathlib.Omega.{arith}
use mathlib.Core.Path.{◌∙◌, ap}
use lib.ListN.{length}
use Rattle.text.proofs.Hexadecimals.{sixteen, hex_length}
use Rattle.text.proofs.put_hex.Goals as goal

pub put_word-requires : goal.put_word-requires
put_word-requires c =
    let d = c.hex-k in
    omega (arith, c.requires, ap length (d.ensures.digits ∙ sixteen d.result c.args.n (search rules) d.ensures.len), hex_length c.args.n)

pub returns : goal.returns
returns c =
    let n = c.args.n in
    let d = c.hex-k in
    rw (d.ensures.digits ∙ sixteen d.result n (search rules) d.ensures.len) at c.put_word.ensures
