-- Where corners land: on a face that their crossings reach, as a place that is taken. Assumes nothing.
use mathlib.Core.Path.{◌≡◌, refl, ap}
use mathlib.Core.Bool.{Bool, true, false}
use Prim.Native.Nat.{ℕ, zero, suc, ◌+◌, ◌≤◌, ◌<◌, max}
use native.Mathlib.Nat.{mod-lt}
use native.Mathlib.Omega.{arith}
use lib.Dec.{ltb, eqb}
use borrow.Author.Tests.{ltb-true}
use Rattle.reply.specs.Choice.{pick}
use Rattle.level.specs.declared.Grid.{Grid}
use Rattle.level.specs.Levels.{Sound}
use Rattle.coordijk.proofs.Reducing.{reduced_flat, reduced_low}
use Rattle.faceijk.specs.declared.Place.{Place}
use Rattle.faceijk.specs.declared.Landed.{Landed}
use Rattle.faceijk.specs.declared.Overage.{Overage}
use Rattle.faceijk.specs.declared.Overage.TheVariants.{None, FaceEdge}
use Rattle.faceijk.specs.Places.{sum_at, QAt, Okay}
use Rattle.faceijk.specs.Crossing.{on_edge, step_out, landed, crossing_of, settle_from}
use Rattle.faceijk.specs.Walking.{Walk, rest, over}
use Rattle.faceijk.proofs.Taking.{sound_at}
use Rattle.faceijk.proofs.Settling.{walks, okay_out}
use Rattle.boundary.specs.declared.Shape.{Shape}
use Rattle.boundary.specs.Corners.{offset_of, corner_of}
use Rattle.boundary.specs.Landing.{substrate_of, corner_place, crossed_once, settled_at, land_from, vertex_of, land_at, Reached, here}
use Rattle.boundary.specs.AsWalked.{Solid, Fit}
use Rattle.boundary.proofs.Apertures.{offset_small}

-- the corner of the turn before k, and the centre where there is none: what the code's walk starts with
unfoldable pub last_at : Shape → ℕ → Landed
last_at s zero = landed s.cell.centre None
last_at s (suc k) = land_at s k

-- after a pentagon's last corner comes its first again
pub first_again : (s : Shape) → s.sides ≡ 5 → land_at s 5 ≡ land_at s 0
unfolding land_at
first_again s five = ap (λ (v : ℕ). land_from s.sides (substrate_of s.cell.level) (corner_place s.cell v)) (rw five (omega arith))

-- what has not five sides has six
pub six : {s : Shape} → Solid s → (s.sides ≡ 5 → ⊥) → s.sides ≡ 6
six f h = omega (arith, f.many, f.few)

-- the corner of every turn is one of the sides
pub vertex_low : (s : Shape) (k : ℕ) → Solid s → vertex_of s k < 6
vertex_low s k f = omega (arith, mod-lt (s.start + k) {m = s.sides} (omega (arith, f.many)), f.few)

-- a corner lies near its centre, so it is taken
max_le : (a b c n : ℕ) → a ≤ n → b ≤ n → c ≤ n → max a (max b c) ≤ n
max_le a b c n p q r = omega arith

pub corner_okay : (s : Shape) (v : ℕ) → Fit s → v < 6 → Okay (corner_place s.cell v)
unfolding corner_of
corner_okay s v f h =
    let c = s.cell.centre in
    let o = offset_of s.cell.odd v in
    let small = offset_small s.cell.odd v h in
    let w = reduced_low (c.i + o.i) (c.j + o.j) (c.k + o.k) in
    let l = f.solid.low in
    let n = f.near in
    record {
      on = f.solid.on;
      taken = record {
        flat = reduced_flat _ _ _;
        low = max_le _ _ _ 67108864 (omega (arith, small.i_upto)) (omega (arith, small.j_upto)) (omega (arith, small.k_upto));
      };
    }

-- a hexagon's corner is reached by one crossing at the most, a pentagon's by as many as settling makes
pub crossed_reached : (g : Grid) (p : Place) → Reached g p (crossing_of false g p).place
unfolding crossing_of
crossed_reached g p = go (on_edge g p) (ltb g.limit (sum_at p)) _ (ltb-true g.limit (sum_at p))
  where
    go : (a b : Bool) (x : Overage) → (b ≡ true → g.limit < sum_at p) → Reached g p (pick a (landed p FaceEdge) (pick b (landed (step_out false g p) x) (landed p None))).place
    go true b x h = here
    go false true x h = Reached.over (h refl) here
    go false false x h = here

walk_reached : {g : Grid} {p : Place} {n : ℕ} {q : Place} → Walk g p n q → Reached g p q
walk_reached (rest h) = here
walk_reached (over h w) = Reached.over h (walk_reached w)

pub settled_reached : (g : Grid) → Sound g → (p : Place) → Okay p → Reached g p (settle_from (QAt p) g p 0).place
settled_reached g sound p o =
    let w = walks g sound (QAt p) p 0 o.taken.flat (omega arith) in
    rw w.2 (walk_reached w.3)

pub land_reached : (sides : ℕ) (g : Grid) → Sound g → (p : Place) → Okay p → Reached g p (land_from sides g p).place
unfolding land_from
land_reached sides g sound p o = go (eqb sides 5)
  where
    go : (b : Bool) → Reached g p (pick b (settled_at g p) (crossed_once g p)).place
    go true = settled_reached g sound p o
    go false = crossed_reached g p

reached_okay : {g : Grid} {p q : Place} → Sound g → Okay p → Reached g p q → Okay q
reached_okay sound o here = o
reached_okay {g} {p} sound o (Reached.over h r) = reached_okay sound (okay_out g sound p o h) r

pub land_okay : (s : Shape) (k : ℕ) → Fit s → Okay (land_at s k).place
unfolding land_at
land_okay s k f =
    let v = vertex_of s k in
    let o = corner_okay s v f (vertex_low s k f.solid) in
    let sound = sound_at s.cell.level.0 true f.solid.level in
    reached_okay sound o (land_reached s.sides (substrate_of s.cell.level) sound (corner_place s.cell v) o)

pub land_okay_of : (s : Shape) (k : ℕ) (x : Landed) → x ≡ land_at s k → Fit s → Okay x.place
land_okay_of s k x e f = rw e (land_okay s k f)
