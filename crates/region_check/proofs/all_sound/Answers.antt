-- `all_sound` meets its contract: the places so far stand in order. Assumes nothing.
use mathlib.Core.Path.{refl, sym, ◌∙◌}
use native.Mathlib.Omega.{arith}
use Rattle.region.specs.Places.{all_to}
use Rattle.region.proofs.Every.{all_more, all_fails}
use Rattle.region_check.specs.Sound.{sound_at}
use Rattle.region_check.proofs.all_sound.Goals as goal

pub loop-n-init : goal.loop-n-init
unfolding all_to
loop-n-init g c = λ at h. refl

pub loop-n-preserved : goal.loop-n-preserved
unfolding sound_at
loop-n-preserved g c = λ at h.
    let last = h _ _ (omega arith) c.place_at-last.ensures in
    let here = h _ _ (omega arith) c.place_at-here.ensures in
    all_more _ _ (c.loop-n.invariant at h) (rw (← c.saturating_sub.ensures, ← last, ← here) (sym c.follows.ensures ∙ c.if-not-follows.false))

pub returns-then-not-follows : goal.returns-then-not-follows
unfolding sound_at
returns-then-not-follows g c = λ at h.
    let last = h _ _ (omega arith) c.place_at-last.ensures in
    let here = h _ _ (omega arith) c.place_at-here.ensures in
    sym (all_fails _ _ _ c.loop-n-test.true (rw (← c.saturating_sub.ensures, ← last, ← here) (sym c.follows.ensures ∙ c.if-not-follows.true)))
