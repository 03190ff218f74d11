-- `Shape::inside` meets its contract: the walk of a hexagon whose corners all stay. Assumes nothing.
use mathlib.Core.Path.{◌≡◌, refl, ap, subst, ◌∙◌}
use mathlib.Core.List.{List}
use Prim.Native.Nat.{ℕ, suc, ◌+◌, ◌<◌}
use native.Mathlib.Omega.{arith}
use lib.ListN.{set}
use Rattle.faceijk.specs.declared.Place.{Place}
use Rattle.faceijk.specs.declared.Landed.{Landed}
use Rattle.boundary.specs.declared.Shape.{Shape}
use Rattle.boundary.specs.declared.BoundaryPoint.{BoundaryPoint}
use Rattle.boundary.specs.Landing.{corner_place, vertex_of, land_at}
use Rattle.boundary.specs.CrossingPoints.{corner_point}
use Rattle.boundary.specs.Boundaries.{room_with}
use Rattle.boundary.specs.AsWalked.{Deep}
use Rattle.boundary.proofs.Landing.{last_at}
use Rattle.boundary.proofs.Walking.{Walking, begun, with_none, with_corner}
use Rattle.boundary.proofs.Inside.{stays_at, none_before, full}
use Rattle.boundary.proofs.Shape.inside.Goals as goal

-- one corner more
next : (s : Shape) (d : Deep s) (points : List BoundaryPoint) (k : ℕ) (p : Place) (q : BoundaryPoint) → Walking s points k (last_at s k) k → p ≡ corner_place s.cell (vertex_of s k) → q ≡ corner_point p → k < s.sides → Walking s (set points k q) (k + 1) (last_at s (k + 1)) (k + 1)
unfolding last_at
next s d points k p q now at is h =
    let place : p ≡ (land_at s k).place = at ∙ ap (λ (l : Landed). l.place) (stays_at s d k) in
    let mid = with_none s points k (last_at s k) k now (none_before s d k) in
    let more : suc k ≡ k + 1 = omega arith in
    subst (λ (n : ℕ). Walking s (set points k q) (k + 1) (last_at s n) n) more (with_corner s points k k mid (land_at s k) refl q (is ∙ ap corner_point place) h d.fit.solid.few)

pub loop-k-init : goal.loop-k-init
unfolding room_with
loop-k-init c = begun c.args.self

pub loop-k-preserved : goal.loop-k-preserved
loop-k-preserved c =
    next c.args.self c.requires.0 _ _ _ _ c.loop-k.invariant c.corner.ensures c.corner-in-loop-k.ensures (omega (arith, c.requires.1))

pub returns : goal.returns
returns c =
    let done : c.loop-k.k ≡ c.args.length = omega arith in
    rw (← done) (full c.args.self c.requires.0 _ _ _ _ c.loop-k.invariant (omega (arith, c.requires.1)))
