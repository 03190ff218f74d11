-- `put_values` meets its contract: the loop has put the values below its index. Assumes nothing.
use borrow.Author.Rules.{rules}
use mathlib.Core.Path.{◌≡◌, sym, ◌∙◌}
use Prim.Native.Nat.{◌+◌, ◌<◌}
use native.Mathlib.Numerals.{add-one}
use native.Mathlib.Omega.{arith}
use lib.ListN.{length, get_or}
use Rattle.reply.specs.Choice.{pick}
use Rattle.text.proofs.Putting.{put_nothing, put_then, put_length}
use Rattle.lent.specs.Lent.{bits_of}
use Rattle.ask_call.specs.Replies.{is_double, values_in}
use Rattle.ask_write.specs.Texts.{text_to}
use Rattle.ask_text.proofs.Lengths.{field_short}
use Rattle.ask_write.proofs.Lengths.{text_more}
use Rattle.ask_write.proofs.Reading.{nothing_read, value_is, one_read, past, past_within}
use Rattle.ask_write.proofs.put_values.Goals as goal

pub loop-k-init : goal.loop-k-init
unfolding text_to
loop-k-init c =
    let a = c.args in
    (omega arith, omega arith, put_nothing a.buf.now 0, nothing_read a.kinds.now a.a.numbers (bits_of a.a.doubles))

pub bounds-kinds-k : goal.bounds-kinds-k
bounds-kinds-k c = omega (arith, c.loop-k-test.true, c.requires.1)

pub overflow_sub-k : goal.overflow_sub-k
overflow_sub-k c = c.loop-k.invariant.0

pub put_field-at-requires : goal.put_field-at-requires
put_field-at-requires c =
    let l = c.loop-k in
    omega (arith, l.invariant.1, c.loop-k-test.true, c.requires, put_length l.invariant.2)

pub loop-k-preserved : goal.loop-k-preserved
loop-k-preserved c =
    let l = c.loop-k in
    let a = c.args in
    let w = a.kinds.now in
    let ds = bits_of a.a.doubles in
    let p = c.put_field-at.ensures in
    let v = c.value_at-v in
    let here : l.k < length w = omega (arith, c.loop-k-test.true, c.requires.1) in
    let e : get_or (values_in w a.a.numbers ds) l.k 0 ≡ v.result = value_is w a.a.numbers ds l.k l.d here l.invariant.0 l.invariant.3 ∙ sym v.ensures in
    let t : l.d + c.from-d.result ≡ pick (is_double (get_or w l.k 0)) (l.d + 1) l.d = past (is_double (get_or w l.k 0)) l.d c.from-d.result c.from-d.ensures in
    let short = field_short l.k (get_or w l.k 0) v.result (search rules) in (
      rw t (past_within (is_double (get_or w l.k 0)) l.k l.d l.invariant.0),
      omega (arith, l.invariant.1, p.end),
      rw (add-one l.k, text_more w (values_in w a.a.numbers ds) l.k, e) (put_then l.invariant.2 p),
      rw t (one_read w a.a.numbers ds l.k l.d here l.invariant.0 l.invariant.3),
    )

pub returns : goal.returns
returns c =
    let l = c.loop-k in
    let end : l.k ≡ c.args.n = omega (arith, c.loop-k-test.false) in
    (rw end at l.invariant.2, omega (arith, l.invariant.1, c.requires))
