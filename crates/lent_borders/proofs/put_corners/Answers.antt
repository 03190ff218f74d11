-- `put_corners` meets its contract: the loop has stored the first v corners. Assumes nothing.
use borrow.Author.Rules.{rules}
use mathlib.Core.Path.{◌≡◌, refl, ap, ◌∙◌}
use mathlib.Core.List.{List, [], ◌∷◌}
use Prim.Native.Nat.{ℕ, ◌+◌, ◌*◌}
use native.Mathlib.Omega.{arith}
use lib.Seq.{take_all}
use Rattle.coordijk.specs.Coordinates.{coord_values}
use Rattle.boundary.specs.Corners.{coords_values}
use Rattle.std.proofs.lemmas.List.{drop_all, append-nil}
use Rattle.lent.proofs.Rows.{store_more, begun}
use Rattle.lent_borders.proofs.Storing.{coords_snoc}
use Rattle.lent_borders.proofs.put_corners.Goals as goal

pub loop-v-init : goal.loop-v-init
loop-v-init c = (refl, begun _ _ c.args.out.now c.put.ensures)

pub loop-v-preserved : goal.loop-v-preserved
loop-v-preserved c =
    let loop = c.loop-v in
    let cs = c.args.corners in (
      search rules,
      c.put-in-loop-v.ensures ∙
          store_more coords_values coord_values coords_snoc (_ ∷ []) cs _ c.put.new.out loop.out loop.v (3 * loop.v + 1) (3 * (loop.v + 1) + 1)
          (omega arith) (omega arith) (omega arith) loop.invariant.0 loop.invariant.1,
    )

pub returns : goal.returns
returns c =
    let a = c.args in
    let done : c.loop-v.v ≡ 6 = omega arith in
    c.loop-v.invariant.1 ∙ rw (done, take_all 6 a.corners (omega arith), drop_all 19 c.put.new.out (omega arith)) (ap (λ (l : List ℕ). a.grid ∷ l) (append-nil (coords_values a.corners)))
