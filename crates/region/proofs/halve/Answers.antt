-- `halve` meets its contract: at each turn what is left to look through ends where it should. Assumes nothing.
use mathlib.Core.Path.{sym, ◌∙◌}
use native.Mathlib.Omega.{arith}
use Rattle.region.specs.Entries.{middle}
use Rattle.region.proofs.Halving.{upper, lower, ended}
use Rattle.region.proofs.halve.Goals as goal

pub loop-lo-preserved-then-is_low : goal.loop-lo-preserved-then-is_low
loop-lo-preserved-then-is_low g c =
    let l = c.loop-lo in (
      omega arith,
      omega arith,
      omega arith,
      λ low h.
          upper _ _ _ _ c.loop-lo-test.true (l.invariant.3 low h)
          (sym (h (middle l.lo l.hi) _ (omega arith) (omega arith) c.is_low.ensures) ∙ c.if-is_low.true),
    )

pub loop-lo-preserved : goal.loop-lo-preserved
loop-lo-preserved g c =
    let l = c.loop-lo in (
      omega arith,
      omega arith,
      omega arith,
      λ low h.
          lower _ _ _ _ c.loop-lo-test.true (l.invariant.3 low h)
          (sym (h (middle l.lo l.hi) _ (omega arith) (omega arith) c.is_low.ensures) ∙ c.if-is_low.false),
    )

pub returns-clause-end : goal.returns-clause-end
returns-clause-end g c = λ low h. ended _ _ _ _ (omega arith) (c.loop-lo.invariant.3 low h)
