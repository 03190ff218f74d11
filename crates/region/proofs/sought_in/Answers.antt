-- `sought_in` meets its contract: its two starts stand in order, and not past the count. Assumes nothing.
use mathlib.Core.Path.{◌≡◌, ap, ◌∙◌}
use Prim.Native.Nat.{◌+◌, ◌*◌, ◌≤◌}
use lib.ListN.{length}
use Rattle.std.proofs.Common.{rules, tests}
use native.Mathlib.Omega.{arith}
use borrow.Author.Tests.{lt-ltb, le-ltb}
use Rattle.faceijk.specs.declared.Place.{Place}
use Rattle.faceijk.specs.Places.{same_place}
use Rattle.faceijk.proofs.Unique.{is_equal}
use Rattle.region.specs.Lists.{record_at, end_of}
use Rattle.region.specs.Places.{before}
use Rattle.region.specs.Entries.{stands_at, sought_in}
use Rattle.region.proofs.Reading.{spanned}
use Rattle.region.proofs.sought_in.Goals as goal

pub end_of-end-requires : goal.end_of-end-requires
end_of-end-requires c =
    let s = spanned _ _ c.requires.face_bound c.requires.face_value in
    (omega (arith, s.is_long.fits), c.requires.face_bound)

pub start_of-requires : goal.start_of-requires
start_of-requires c =
    let s = spanned _ _ c.requires.face_bound c.requires.face_value in
    (omega (arith, s.is_long.fits), c.requires.face_bound)

pub halve-at-requires : goal.halve-at-requires
halve-at-requires c =
    let s = spanned _ _ c.requires.face_bound c.requires.face_value in
    record {
      ordered = omega (arith, s.ordered, c.end_of-end.ensures, c.start_of.ensures);
      callable = λ n a b. let there : 16 * n + 16 ≤ length c.args.list.now = omega (arith, s.is_long.fits, s.within, c.end_of-end.ensures) in search (rules, tests);
    }

pub returns-then-end-at : goal.returns-then-end-at
unfolding stands_at sought_in
returns-then-end-at c =
    let a = c.args in
    let at : c.halve-at.result ≡ stands_at a.list.now a.place = c.halve-at.ensures.end (λ n. before (record_at a.list.now n) a.place) (λ n b m l e. search (rules, tests)) ∙ rw (c.end_of-end.ensures, c.start_of.ensures) in
    rw (le-ltb (stands_at a.list.now a.place) (end_of a.list.now a.place.face)
    (omega (arith, at, c.end_of-end.ensures, c.if-end-at.true)))

pub record_at-requires : goal.record_at-requires
record_at-requires c =
    let s = spanned _ _ c.requires.face_bound c.requires.face_value in
    omega (arith, s.is_long.fits, s.within, c.end_of-end.ensures, c.if-end-at.false)

pub returns : goal.returns
unfolding stands_at sought_in
returns c =
    let a = c.args in
    let at : c.halve-at.result ≡ stands_at a.list.now a.place = c.halve-at.ensures.end (λ n. before (record_at a.list.now n) a.place) (λ n b m l e. search (rules, tests)) ∙ rw (c.end_of-end.ensures, c.start_of.ensures) in
    rw (lt-ltb (stands_at a.list.now a.place) (end_of a.list.now a.place.face)
    (omega (arith, at, c.end_of-end.ensures, c.if-end-at.false)))
    (c.eq.ensures ∙ is_equal c.record_at.result a.place
    ∙ ap (λ (p : Place). same_place p a.place) (c.record_at.ensures ∙ ap (record_at a.list.now) at))
