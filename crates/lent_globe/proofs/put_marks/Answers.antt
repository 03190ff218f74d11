-- `put_marks` meets its contract: the loop has stored the count, and face and mark of the first v points. Assumes nothing.
use borrow.Author.Rules.{rules}
use mathlib.Core.Path.{◌≡◌, refl, ap, ◌∙◌}
use mathlib.Core.List.{List, [], ◌∷◌}
use Prim.Native.Nat.{ℕ, ◌+◌, ◌*◌}
use native.Mathlib.Omega.{arith}
use lib.Seq.{take_all}
use Rattle.globe.specs.declared.SpherePoint.{SpherePoint}
use Rattle.globe.specs.Boundaries.{sphere_points_values}
use Rattle.lent_globe.specs.Globes.{marks_in}
use Rattle.std.proofs.lemmas.List.{drop_all, append-nil}
use Rattle.lent.proofs.Rows.{store_more, begun}
use Rattle.lent_globe.proofs.Storing.{marks_at, marks_snoc}
use Rattle.lent_globe.proofs.put_marks.Goals as goal

pub loop-v-init : goal.loop-v-init
loop-v-init c = (refl, begun _ _ c.args.marks.now c.put.ensures)

pub loop-v-preserved : goal.loop-v-preserved
loop-v-preserved c =
    let loop = c.loop-v in
    let ps = c.args.points in (
      search rules,
      c.put-in-loop-v.ensures ∙
          store_more (λ (l : List SpherePoint). marks_in (sphere_points_values l)) marks_at marks_snoc (_ ∷ []) ps _ c.put.new.out loop.marks loop.v (2 * loop.v + 1)
          (2 * (loop.v + 1) + 1) (omega arith) (omega arith) (omega arith) loop.invariant.0 loop.invariant.1,
    )

pub returns : goal.returns
returns c =
    let a = c.args in
    let done : c.loop-v.v ≡ 12 = omega arith in
    c.loop-v.invariant.1 ∙ rw (done, take_all 12 a.points (omega arith), drop_all 25 c.put.new.out (omega arith)) (ap (λ (l : List ℕ). a.count ∷ l) (append-nil (marks_in (sphere_points_values a.points))))
