-- `put_place` meets its contract: face, i, j and k, one behind the other. Assumes nothing.
use native.Mathlib.Omega.{arith}
use borrow.Author.Rules.{rules}
use Rattle.text.proofs.Decimals.{field_short10}
use Rattle.text.proofs.Putting.{put_then, put_length}
use Rattle.walk_lines.specs.Lines.{place_fields}
use Rattle.walk_lines.proofs.Lengths.{Fits}
use Rattle.walk_lines.proofs.put_place.Goals as goal

pub put_spaced-i-requires : goal.put_spaced-i-requires
put_spaced-i-requires c =
    let fits : Fits c.args.p = record { face = search rules; i = search rules; j = search rules; k = search rules } in
    let a = rw c.from.ensures at c.put_spaced-face.ensures in
    omega (arith, c.requires, a.end, put_length a, field_short10 c.args.p.face fits.face)

pub put_spaced-j-requires : goal.put_spaced-j-requires
put_spaced-j-requires c =
    let fits : Fits c.args.p = record { face = search rules; i = search rules; j = search rules; k = search rules } in
    let a = rw c.from.ensures at c.put_spaced-face.ensures in
    let b = rw c.from-2.ensures at c.put_spaced-i.ensures in
    let f = field_short10 c.args.p.face fits.face in
    let i = field_short10 c.args.p.i fits.i in
    omega (arith, c.requires, a.end, put_length a, b.end, put_length b)

pub put_spaced-requires : goal.put_spaced-requires
put_spaced-requires c =
    let fits : Fits c.args.p = record { face = search rules; i = search rules; j = search rules; k = search rules } in
    let a = rw c.from.ensures at c.put_spaced-face.ensures in
    let b = rw c.from-2.ensures at c.put_spaced-i.ensures in
    let d = rw c.from-3.ensures at c.put_spaced-j.ensures in
    let f = field_short10 c.args.p.face fits.face in
    let i = field_short10 c.args.p.i fits.i in
    let j = field_short10 c.args.p.j fits.j in
    omega (arith, c.requires, a.end, put_length a, b.end, put_length b, d.end, put_length d)

pub returns : goal.returns
unfolding place_fields
returns c =
    rw (← c.from.ensures, ← c.from-2.ensures, ← c.from-3.ensures, ← c.from-4.ensures)
    (put_then c.put_spaced-face.ensures (put_then c.put_spaced-i.ensures (put_then c.put_spaced-j.ensures c.put_spaced.ensures)))
