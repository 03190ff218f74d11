-- `margin::margin` meets its contract: both leftovers are tested, and what is subtracted is exact. Assumes nothing.
use Rattle.reply.specs.Replies.{fine}
use Rattle.std.proofs.Common.{◌≡◌, true, [], ◌∷◌, sym, refl, ◌∙◌}
use lib.Ieee.{binary64, of_bits, to_bits}
use Rattle.reply.proofs.Entries.{both, answers}
use Rattle.margin.specs.Margins.{is_leftover, reach_of, margin_of, margin_verdict}
use Rattle.margin.proofs.Counting.{below_one, leftover_upto, taken_off}
use Rattle.margin.proofs.margin.Goals as goal

pub magnitude-r1-requires : goal.magnitude-r1-requires
magnitude-r1-requires c =
    let first : is_leftover c.args.left.r1 ≡ true = sym c.is_leftover.ensures ∙ (both _ _ c.if-is_leftover.true).0 in
    (below_one _ first).0

pub magnitude-r2-requires : goal.magnitude-r2-requires
magnitude-r2-requires c =
    let second : is_leftover c.args.left.r2 ≡ true = sym c.is_leftover-2.ensures ∙ (both c.is_leftover.result _ c.if-is_leftover.true).1 in
    (below_one _ second).0

pub parts-requires : goal.parts-requires
parts-requires c =
    let first : is_leftover c.args.left.r1 ≡ true = sym c.is_leftover.ensures ∙ (both _ _ c.if-is_leftover.true).0 in
    rw c.magnitude-r1.ensures (leftover_upto _ first)

pub parts-requires-then-is_leftover : goal.parts-requires-then-is_leftover
parts-requires-then-is_leftover c =
    let second : is_leftover c.args.left.r2 ≡ true = sym c.is_leftover-2.ensures ∙ (both c.is_leftover.result _ c.if-is_leftover.true).1 in
    rw c.magnitude-r2.ensures (leftover_upto _ second)

pub returns-then-is_leftover : goal.returns-then-is_leftover
unfolding margin_of of_bits
returns-then-is_leftover c =
    let first : is_leftover c.args.left.r1 ≡ true = sym c.is_leftover.ensures ∙ (both _ _ c.if-is_leftover.true).0 in
    let second : is_leftover c.args.left.r2 ≡ true = sym c.is_leftover-2.ensures ∙ (both c.is_leftover.result _ c.if-is_leftover.true).1 in
    let l = c.args.left in
    let clear : margin_verdict l ≡ fine = rw (first, second) in
    let is : c.reach-far.result ≡ reach_of l =
    rw (c.reach-far.ensures.reaches, c.chosen.ensures, c.parts-then-is_leftover.ensures.counts, c.parts.ensures.counts, c.magnitude-r2.ensures, c.magnitude-r1.ensures) in
    answers 1 (margin_verdict l) (to_bits binary64 (margin_of l) ∷ []) _ clear
    (rw (taken_off c.reach-far.result c.reach-far.ensures.bounded, is) refl)
