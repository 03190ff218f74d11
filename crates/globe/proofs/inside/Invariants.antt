-- `inside` meets its contract: three loops, each of which fills an array from what the one before left. Assumes nothing.
use mathlib.Core.Path.{◌≡◌}
use Prim.Native.Nat.{ℕ, ◌<◌}
use lib.ListN.{get_or}
use lib.Ieee.{nan}
use Rattle.reply.specs.Replies.{fine}
use Rattle.root.specs.Root.{root_of}
use Rattle.globe.specs.Boundaries.{no_sphere_point}
use Rattle.globe.specs.AsWorked.{length_of, over_of}
use Rattle.globe.proofs.OneTest.{verdict_by}
use Rattle.globe.proofs.Filling.{Filled}
use Rattle.globe.proofs.Deep.{square_at, far_at, unread}
use Rattle.globe.proofs.inside.Given as goal

-- points in space and squared lengths of the first k corners
abbrev pub invariant-loop-k : goal.invariant-loop-k
invariant-loop-k l =
    Filled unread 12 (far_at l.frame l.shape) (λ i. no_sphere_point) l.k l.points ×
    Filled nan 6 (square_at l.frame l.shape) (λ i. get_or l.initial.lengths i nan) l.k l.lengths

-- the first l of them are lengths, and none was refused
abbrev pub invariant-loop-l : goal.invariant-loop-l
invariant-loop-l l =
    Filled nan 6 (λ i. root_of (get_or l.initial.lengths i nan)) (λ i. get_or l.initial.lengths i nan) l.l l.lengths ×
    ((i : ℕ) → i < l.l → verdict_by (length_of (get_or l.initial.lengths i nan)) ≡ fine)

-- the first m points are divided
abbrev pub invariant-loop-m : goal.invariant-loop-m
invariant-loop-m l =
    Filled unread 12 (λ i. over_of (get_or l.lengths i nan) (get_or l.initial.points i unread)) (λ i. get_or l.initial.points i unread) l.m l.points
