-- `are_same` meets its contract. The loop's invariant: what was found, or what is left of the row to compare, gives the answer. Assumes nothing.
use mathlib.Core.Path.{◌≡◌, sym, ◌∙◌, subst}
use Prim.Native.Nat.{◌+◌, ◌-◌}
use native.Mathlib.Omega.{arith}
use Rattle.faceijk.specs.declared.Place.{Place}
use Rattle.faceijk.proofs.Unique.{is_equal}
use Rattle.names.specs.Entries.{Inside}
use Rattle.names.proofs.Rows.{next_inside}
use Rattle.names.proofs.Loops.{compared_on, compared_last, compared_first}
use Rattle.names.proofs.are_same.Goals as goal

pub loop-init : goal.loop-init
loop-init c = let pre = c.requires in (pre.0, pre.1, compared_first _ _ _ _ (omega (arith, c.others_of-others.ensures)))

pub loop-preserved : goal.loop-preserved
loop-preserved c =
    let a = c.args in
    let now = c.loop in
    let inv = now.invariant in
    let next = c.next_name-name.ensures in
    let more = c.others_of-others.result - now.counter in
    let left : c.others_of-others.result - c.loop.counter - 1 ≡ c.others_of-others.result - (c.loop.counter + 1) = omega arith in (
      subst (λ (x : Place). Inside a.grid x) (sym next) (next_inside _ inv.1 _ inv.0),
      inv.1,
      rw (← left) (compared_on a.grid now.name a.q more (omega arith) now.same c.eq-same.result (c.eq-same.ensures ∙ is_equal now.name a.q) c.next_name-name.result next ∙ inv.2),
    )

pub returns : goal.returns
returns c =
    let a = c.args in
    let now = c.loop in
    compared_last a.grid now.name a.q (c.others_of-others.result - now.counter) (omega arith) now.same c.eq.result (c.eq.ensures ∙ is_equal now.name a.q) ∙ now.invariant.2
