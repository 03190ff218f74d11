-- `put_number` meets its contract: the digits are made apart and copied. Assumes nothing.
use borrow.Author.Rules.{rules}
use native.Mathlib.Omega.{arith}
use mathlib.Core.Path.{◌∙◌, ap}
use lib.ListN.{length}
use Rattle.text.proofs.Decimals.{spelt, short20}
use Rattle.text.proofs.put_number.Goals as goal

pub put_word-requires : goal.put_word-requires
put_word-requires c =
    let d = c.decimal-k in
    omega (arith, c.requires, ap length (d.ensures.digits ∙ spelt d.result c.args.n d.ensures.len), short20 c.args.n (search rules))

pub returns : goal.returns
returns c =
    let n = c.args.n in
    let d = c.decimal-k in
    rw (d.ensures.digits ∙ spelt d.result n d.ensures.len) at c.put_word.ensures
