-- `first_of` meets its contract. The loop's invariant: what is left of the row, with the lowest name so far, gives the first name. Assumes nothing.
use mathlib.Core.Path.{◌≡◌, sym, ◌∙◌, subst}
use Rattle.faceijk.specs.declared.Place.{Place}
use Prim.Native.Nat.{◌+◌, ◌-◌}
use native.Mathlib.Omega.{arith}
use Rattle.names.specs.Entries.{Inside}
use Rattle.names.proofs.Rows.{next_inside}
use Rattle.names.proofs.Loops.{goes_on, ends, starts}
use Rattle.names.proofs.first_of.Goals as goal

pub loop-init : goal.loop-init
loop-init c = let pre = c.requires in (pre.0, pre.1, starts _ c.args.p c.args.p _ (omega (arith, c.others_of-others.ensures)))

pub loop-preserved : goal.loop-preserved
loop-preserved c =
    let inv = c.loop.invariant in
    let q = c.next_name-at.ensures in
    let left : c.others_of-others.result - c.loop.counter - 1 ≡ c.others_of-others.result - (c.loop.counter + 1) = omega arith in (
      subst (λ (x : Place). Inside c.args.grid x) (sym q) (next_inside _ inv.1 _ inv.0),
      inv.1,
      rw (← left) (goes_on _ _ _ _ (omega arith) _ _ q c.lower_of-best.ensures ∙ inv.2),
    )

pub returns : goal.returns
returns c = ends _ _ c.loop.at (c.others_of-others.result - c.loop.counter) (omega arith) ∙ c.loop.invariant.2
