-- `least` meets its contract: the loop has compared the faces below `2 * half`. Assumes nothing.
use mathlib.Core.Path.{◌≡◌, ◌∙◌}
use Prim.Native.Nat.{◌+◌, ◌-◌, ◌*◌}
use native.Mathlib.Omega.{arith}
use Rattle.vec3d.specs.AsAsked.{distance_at}
use Rattle.vec3d.proofs.Choosing.{first_pair, by_pairs}
use Rattle.vec3d.proofs.least.Goals as goal

pub loop-half-init : goal.loop-half-init
loop-half-init c = λ known. c.pair_at-best.ensures ∙ first_pair _

pub loop-half-preserved : goal.loop-half-preserved
loop-half-preserved c =
    let h = c.loop-half.half in
    let next : 2 * h - 1 + 1 ≡ 2 * h = omega arith in
    let after : 2 * h + 1 ≡ 2 * (h + 1) - 1 = omega arith in
    λ known.
    c.closer-best.ensures
    ∙ rw (c.pair_at-pair.ensures, ← after, ← next) (by_pairs (distance_at c.args.far) known (2 * h - 1) c.loop-half.best (omega arith) (c.loop-half.invariant known))
