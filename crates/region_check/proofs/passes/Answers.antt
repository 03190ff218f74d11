-- `passes` meets its contract. Assumes nothing.
use mathlib.Core.Path.{◌≡◌, sym, ap, ◌∙◌}
use mathlib.Core.Bool.{false}
use native.Mathlib.Omega.{arith}
use Rattle.std.proofs.Common.{rules, tests}
use Rattle.region.specs.Lists.{record_at, count_of, wrong_length}
use Rattle.region.proofs.Reading.{Long, long}
use Rattle.region_check.specs.Sound.{sound_to}
use Rattle.region_check.specs.Checks.{passes}
use Rattle.region_check.proofs.Checking.{starts_same}
use Rattle.region_check.proofs.passes.Goals as goal

pub returns-then-wrong_length : goal.returns-then-wrong_length
unfolding passes
returns-then-wrong_length c = rw (sym c.wrong_length.ensures ∙ c.if-wrong_length.true)

pub all_sound-requires : goal.all_sound-requires
all_sound-requires c =
    let length_right : wrong_length c.args.list.now ≡ false = sym c.wrong_length.ensures ∙ c.if-wrong_length.false in
    let is_long : Long c.args.list.now = long _ length_right in
    omega (arith, is_long.fits, c.count_of-count.ensures.0)

pub starts_split-requires : goal.starts_split-requires
starts_split-requires c =
    let length_right : wrong_length c.args.list.now ≡ false = sym c.wrong_length.ensures ∙ c.if-wrong_length.false in
    let is_long : Long c.args.list.now = long _ length_right in
    (omega (arith, is_long.fits, c.count_of-count.ensures.0), c.count_of-count.ensures.0)

pub level_of-requires : goal.level_of-requires
level_of-requires c =
    let length_right : wrong_length c.args.list.now ≡ false = sym c.wrong_length.ensures ∙ c.if-wrong_length.false in
    let is_long : Long c.args.list.now = long _ length_right in
    omega (arith, is_long.fits)

pub count_of-count-requires : goal.count_of-count-requires
count_of-count-requires c =
    let length_right : wrong_length c.args.list.now ≡ false = sym c.wrong_length.ensures ∙ c.if-wrong_length.false in
    let is_long : Long c.args.list.now = long _ length_right in
    omega (arith, is_long.fits)

pub returns-then-not-all_sound : goal.returns-then-not-all_sound
unfolding passes
returns-then-not-all_sound c =
    let length_right : wrong_length c.args.list.now ≡ false = sym c.wrong_length.ensures ∙ c.if-wrong_length.false in
    let sounds : let s = c.args.list.now in sound_to (record_at s) (count_of s) ≡ c.all_sound.result = let s = c.args.list.now in sym (c.all_sound.ensures (record_at s) (λ n p l e. search (rules, tests)) ∙ ap (sound_to (record_at s)) c.count_of-count.ensures.0) in
    rw (length_right, sounds ∙ c.if-not-all_sound.true)

pub returns : goal.returns
unfolding passes
returns c =
    let length_right : wrong_length c.args.list.now ≡ false = sym c.wrong_length.ensures ∙ c.if-wrong_length.false in
    let sounds : let s = c.args.list.now in sound_to (record_at s) (count_of s) ≡ c.all_sound.result = let s = c.args.list.now in sym (c.all_sound.ensures (record_at s) (λ n p l e. search (rules, tests)) ∙ ap (sound_to (record_at s)) c.count_of-count.ensures.0) in
    let ok = sounds ∙ c.if-not-all_sound.false in
    rw (length_right, ok, ← (starts_same _ ok), c.starts_split.ensures, c.level_of.ensures)
