-- `call_meet` meets its contract: the lines of the first eight fields are those of all nine. Assumes nothing.
use borrow.Author.Rules.{rules}
use borrow.Author.Tests.{eq-eqb}
use mathlib.Core.Path.{◌≡◌, sym}
use mathlib.Core.List.{List}
use Prim.Native.Nat.{ℕ, ◌+◌, ◌<◌}
use native.Mathlib.Omega.{arith}
use lib.Dec.{lit≤}
use lib.Ieee.{Float, nan}
use lib.ListN.{length, take, length-take}
use lib.Seq.{get_or-take}
use Rattle.vec2d.specs.Points.{point, point_at}
use Rattle.vec2d.specs.Meeting.{line_at, meet_reply}
use Rattle.lent_grid.specs.Lines.{lines_reply}
use Rattle.ask_call.proofs.call_meet.Goals as goal

module _ (ds : List Float) where
  eight : length ds ≡ 9 → length (take 8 ds) ≡ 8
  eight h = omega (arith, length-take 8 ds)

  point_kept : (n : ℕ) → n + 1 < 8 → point_at (take 8 ds) n ≡ point_at ds n
  point_kept n h =
      let x = get_or-take 8 ds n nan (omega arith) in
      let y = get_or-take 8 ds (n + 1) nan h in
      λ i. point (x i) (y i)

  line_kept : (n : ℕ) → n + 3 < 8 → line_at (take 8 ds) n ≡ line_at ds n
  line_kept n h =
      let a = point_kept n (omega arith) in
      let b = point_kept (n + 2) (omega arith) in
      λ i. record { from = a i; to = b i }

  lines_kept : length ds ≡ 9 → lines_reply (take 8 ds) ≡ meet_reply (line_at ds 0) (line_at ds 4)
  lines_kept h = rw (eq-eqb (length (take 8 ds)) 8 (eight h)) (λ i. meet_reply (line_kept 0 (lit≤ tt) i) (line_kept 4 (lit≤ tt) i))

pub slice_bounds-meet-end : goal.slice_bounds-meet-end
slice_bounds-meet-end c =
    let nine : length c.args.d ≡ 9 = search rules in
    sym (eight c.args.d nine)

pub returns : goal.returns
returns c =
    let ds = c.args.d in
    let nine : length ds ≡ 9 = search rules in
    rw (← (lines_kept ds nine)) c.meet.ensures
