-- `spell` meets its contract: what is left to spell, after the digits read, spells the same. Assumes nothing.
use native.Mathlib.Omega.{arith}
use mathlib.Core.Path.{◌≡◌, sym, ◌∙◌}
use Prim.Native.Nat.{◌^◌, ◌<◌}
use lib.ListN.{length, get_or}
use Rattle.std.proofs.Common.{rules, Some, None}
use Rattle.ask_read.specs.Words.{with_digit, spelt}
use Rattle.ask_read.proofs.Spelling.{at_hand, room_after, spelt_after, spoilt, spelt_end}
use Rattle.ask_read.proofs.spell.Goals as goal

pub with_digit-requires : goal.with_digit-requires
with_digit-requires c =
    let l = c.loop-b in
    let a = c.args in
    at_hand a.base a.s.now l.b-index l.value (omega arith) (2 ^ 64) c.requires.0 l.invariant.0

pub loop-b-preserved : goal.loop-b-preserved
loop-b-preserved c =
    let l = c.loop-b in
    let a = c.args in
    let n = c.in_ok-value.value in
    let h : l.b-index < length a.s.now = omega arith in
    let e : with_digit a.base l.value (get_or a.s.now l.b-index 0) ≡ Some n = sym c.with_digit.ensures ∙ c.in_ok-value.was in
    (room_after a.base a.s.now l.b-index l.value h n (2 ^ 64) e l.invariant.0, spelt_after a.base a.s.now l.b-index l.value h n (spelt a.base a.before a.s.now) e l.invariant.1)

pub returns-in_err-value : goal.returns-in_err-value
returns-in_err-value c =
    let l = c.loop-b in
    let a = c.args in
    let h : l.b-index < length a.s.now = omega arith in
    let e : with_digit a.base l.value (get_or a.s.now l.b-index 0) ≡ None = sym c.with_digit.ensures ∙ c.in_err-value.was in
    let f : None ≡ spelt a.base a.before a.s.now = spoilt a.base a.s.now l.b-index l.value h (spelt a.base a.before a.s.now) e l.invariant.1 in
    rw (← f) (search rules)

pub returns : goal.returns
returns c =
    let l = c.loop-b in
    let a = c.args in
    spelt_end a.base a.s.now l.b-index l.value (spelt a.base a.before a.s.now) (omega arith) l.invariant.1
