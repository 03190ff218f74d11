-- `put_vectors` meets its contract: the loop has stored x, y and z of the first v points. Assumes nothing.
use borrow.Author.Rules.{rules}
use mathlib.Core.Path.{◌≡◌, refl, ap, ◌∙◌}
use mathlib.Core.List.{[]}
use Prim.Native.Nat.{◌+◌, ◌*◌}
use native.Mathlib.Omega.{arith}
use lib.Seq.{take_all}
use Rattle.lent.specs.Lent.{bits_of}
use Rattle.std.proofs.lemmas.List.{drop_all, append-nil}
use Rattle.lent.proofs.Rows.{store_more}
use Rattle.lent_globe.proofs.Storing.{vector_at, vectors, vectors_snoc, vectors_bits}
use Rattle.lent_globe.proofs.put_vectors.Goals as goal

pub loop-v-init : goal.loop-v-init
loop-v-init c = (refl, refl)

pub loop-v-preserved : goal.loop-v-preserved
loop-v-preserved c =
    let loop = c.loop-v in
    let a = c.args in (
      search rules,
      c.put.ensures ∙
          store_more vectors vector_at vectors_snoc [] a.points _ a.out.now loop.out loop.v (3 * loop.v) (3 * (loop.v + 1))
          (omega arith) (omega arith) (omega arith) loop.invariant.0 loop.invariant.1,
    )

pub returns : goal.returns
returns c =
    let loop = c.loop-v in
    let a = c.args in
    let done : loop.v ≡ 12 = omega arith in
    ap bits_of (loop.invariant.1 ∙ rw (done, take_all 12 a.points (omega arith), drop_all 36 a.out.now (omega arith)) (append-nil (vectors a.points))) ∙ vectors_bits a.points
