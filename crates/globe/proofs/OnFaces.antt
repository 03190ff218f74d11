-- Every point that a boundary needs lies on one of the twenty faces. Assumes nothing.
use mathlib.Core.Bool.{Bool, true, false, ◌||◌}
use Prim.Native.Nat.{ℕ, zero, suc, ◌<◌}
use lib.Dec.{eqb, ltb}
use Rattle.reply.specs.declared.Refusal.{Refusal}
use Rattle.std.specs.Prelude.{Ok, Err, Result, Option, Some, None}
use Rattle.reply.specs.Choice.{pick}
use Rattle.reply.specs.declared.Refusal.TheVariants.{NoCrossing}
use Rattle.faceijk.specs.declared.Place.{Place}
use Rattle.faceijk.specs.declared.Landed.{Landed}
use Rattle.faceijk.specs.Faces.{dir_to}
use Rattle.faceijk.specs.Steps.{step_of}
use Rattle.faceijk.specs.Entries.{bad_edge}
use Rattle.faceijk.proofs.Faces.{mate_over}
use Rattle.faceijk.proofs.Taking.{edge_low}
use Rattle.vec2d.specs.declared.Vec2d.{Vec2d}
use Rattle.vec2d.specs.declared.Crossing.{Crossing as Meeting}
use Rattle.vec2d.specs.Points.{point}
use Rattle.vec2d.specs.Meeting.{no_crossing, met_of}
use Rattle.vec2d.specs.Closeness.{close}
use Rattle.boundary.specs.declared.Cell.{Cell}
use Rattle.boundary.specs.declared.Shape.{Shape}
use Rattle.boundary.specs.declared.BoundaryPoint.{BoundaryPoint}
use Rattle.boundary.specs.Landing.{land_at}
use Rattle.boundary.specs.CrossingPoints.{pointed, cross_at, unless_corner, is_face_edge, hexagon_crossing, taken_over, pentagon_crossing, crossing_between, before_at}
use Rattle.boundary.specs.AsWalked.{Fit}
use Rattle.boundary.proofs.Landing.{land_okay}
use Rattle.boundary.proofs.CrossingRefusals.{either, unless}
use Rattle.globe.specs.Boundaries.{corner_in}
use Rattle.globe.specs.AsWorked.{OnFace, none, there, unmet}

on_pointed : (f : ℕ) (m : Meeting) → f < 20 → OnFace (pointed f (met_of m))
unfolding met_of
on_pointed f m h = go (no_crossing m)
  where
    go : (b : Bool) → OnFace (pointed f (pick b (Err NoCrossing) (Ok m.at)))
    go true = unmet
    go false = there h

on_cross : (m f : ℕ) (a b : Vec2d) (d : ℕ) → f < 20 → OnFace (cross_at m f a b d)
unfolding cross_at
on_cross m f a b d h = either OnFace (bad_edge d) unmet (on_pointed f _ h)

on_unless : (a b : Vec2d) (x : Result (Option BoundaryPoint) Refusal) → OnFace x → OnFace (unless_corner a b x)
on_unless a b (Ok None) h = none
on_unless a b (Ok (Some p)) h = either OnFace (close a (point p.x p.y) || close b (point p.x p.y)) none h
on_unless a b (Err r) h = unmet

on_hexagon : (c : Cell) (last : Landed) (now v : ℕ) → c.centre.face < 20 → OnFace (hexagon_crossing c last now v)
unfolding hexagon_crossing
on_hexagon c last now v h = either OnFace (eqb last.place.face now) none (either OnFace (is_face_edge last.overage) none (on_unless _ _ _ (on_cross _ _ _ _ _ h)))

on_pentagon : (c : Cell) (last now : Place) → now.face < 20 → OnFace (pentagon_crossing c last now)
unfolding pentagon_crossing taken_over step_of
on_pentagon c last now h =
    unless OnFace (bad_edge (dir_to now.face last.face)) unmet
    (λ e. let d = edge_low _ e in on_cross _ _ _ _ _ (mate_over _ d.0 d.1 now.face h).over)

module _ (s : Shape) (fit : Fit s) where
  pub before_on : (k : ℕ) → OnFace (before_at s k)
  unfolding before_at crossing_between
  before_on zero = none
  before_on (suc k) =
      either OnFace s.cell.odd
      (either OnFace (eqb s.sides 5) (on_pentagon _ _ _ (land_okay s (suc k) fit).on) (on_hexagon _ _ _ _ fit.solid.on))
      none

  pub corner_on : (k : ℕ) → OnFace (corner_in s k (land_at s k).place)
  corner_on k = either OnFace (ltb k s.sides) (there (land_okay s k fit).on) none

-- the face of a point that is there
pub on_face : {p : BoundaryPoint} → OnFace (Ok (Some p)) → p.face < 20
on_face (there h) = h
