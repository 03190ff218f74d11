-- How a crossing point can be refused: by 12 or 13 only. Assumes nothing.
use mathlib.Core.Path.{subst, ◌≡◌, refl}
use mathlib.Core.Bool.{Bool, true, false, true≢false, ◌||◌}
use mathlib.Core.Logic.{◌⊎◌, inl, inr}
use Prim.Native.Nat.{ℕ, zero, suc}
use lib.Dec.{eqb}
use Rattle.reply.specs.Replies.{Verdict}
use Rattle.std.specs.Prelude.{Ok, Err, Result, Option, Some, None}
use Rattle.reply.specs.Choice.{pick}
use Rattle.reply.specs.declared.Refusal.{Refusal}
use Rattle.reply.specs.declared.Refusal.TheVariants.{NotAdjacent, NoCrossing}
use Rattle.vec2d.specs.declared.Vec2d.{Vec2d}
use Rattle.vec2d.specs.declared.Crossing.{Crossing as Meeting}
use Rattle.vec2d.specs.Points.{point}
use Rattle.vec2d.specs.Meeting.{no_crossing, met_of}
use Rattle.vec2d.specs.Closeness.{close}
use Rattle.faceijk.specs.declared.Place.{Place}
use Rattle.faceijk.specs.declared.Landed.{Landed}
use Rattle.faceijk.specs.Faces.{dir_to}
use Rattle.faceijk.specs.Entries.{bad_edge}
use Rattle.boundary.specs.declared.Cell.{Cell}
use Rattle.boundary.specs.declared.Shape.{Shape}
use Rattle.boundary.specs.declared.BoundaryPoint.{BoundaryPoint}
use Rattle.boundary.specs.CrossingPoints.{a_crossing, pointed, cross_at, unless_corner, is_face_edge, hexagon_crossing, taken_over, pentagon_crossing, crossing_between, before_at}
use Rattle.boundary.specs.Boundaries.{or_else, verdict_before, verdict_to}
use Rattle.boundary.specs.CrossingPoints.{away_face}

-- what stands before a corner is nothing, a crossing point, or a refusal that P allows
pub data Fair (P : Refusal → Type 0) : Result (Option BoundaryPoint) Refusal → Type 0 where
  none : Fair P (Ok None)
  point_there : {p : BoundaryPoint} → p.mark ≡ a_crossing → Fair P (Ok (Some p))
  refused : {r : Refusal} → P r → Fair P (Err r)

pub either : {A : Type 0} (Q : A → Type 0) (b : Bool) {x y : A} → Q x → Q y → Q (pick b x y)
either Q true p q = p
either Q false p q = q

pub unless : {A : Type 0} (Q : A → Type 0) (b : Bool) {x y : A} → Q x → (b ≡ false → Q y) → Q (pick b x y)
unless Q true p q = p
unless Q false p q = q refl

pub other : {A : Type 0} (Q : A → Type 0) (b : Bool) → b ≡ false → (x : A) {y : A} → Q y → Q (pick b x y)
other Q true e x q = absurd (true≢false e)
other Q false e x q = q

module _ (P : Refusal → Type 0) (unmet : P NoCrossing) where
  fair_pointed : (f : ℕ) (m : Meeting) → Fair P (pointed f (met_of m))
  unfolding met_of
  fair_pointed f m = go (no_crossing m)
    where
      go : (b : Bool) → Fair P (pointed f (pick b (Err NoCrossing) (Ok m.at)))
      go true = refused unmet
      go false = point_there refl

  -- an edge that is none of the three is refused
  pub fair_cross : (m f : ℕ) (a b : Vec2d) (d : ℕ) → (bad_edge d ≡ true → P NotAdjacent) → Fair P (cross_at m f a b d)
  unfolding cross_at
  fair_cross m f a b d h = go (bad_edge d) _ h
    where
      go : (x : Bool) (y : Meeting) → (x ≡ true → P NotAdjacent) → Fair P (pick x (Err NotAdjacent) (pointed f (met_of y)))
      go true y h = refused (h refl)
      go false y h = fair_pointed f y

  pub fair_unless : (a b : Vec2d) (x : Result (Option BoundaryPoint) Refusal) → Fair P x → Fair P (unless_corner a b x)
  fair_unless a b (Ok None) h = none
  fair_unless a b (Ok (Some p)) h = either (Fair P) (close a (point p.x p.y) || close b (point p.x p.y)) none h
  fair_unless a b (Err r) h = h

  -- a hexagon's, where between unlike faces an edge that is none of the three may be refused
  pub fair_hexagon : (c : Cell) (last : Landed) (now v : ℕ) → (let home = c.centre.face in eqb last.place.face now ≡ false → bad_edge (dir_to home (away_face home last.place.face now)) ≡ true → P NotAdjacent) → Fair P (hexagon_crossing c last now v)
  unfolding hexagon_crossing
  fair_hexagon c last now v h =
      unless (Fair P) (eqb last.place.face now) none
      (λ e. either (Fair P) (is_face_edge last.overage) none (fair_unless _ _ _ (fair_cross _ _ _ _ _ (h e))))

-- the two refusals that a crossing point can have
abbrev pub TwelveOrThirteen : Refusal → Type 0
TwelveOrThirteen r = (r ≡ NotAdjacent) ⊎ (r ≡ NoCrossing)

fair_over : (c : Cell) (last : Place) (now : ℕ) (over : Place) → Fair TwelveOrThirteen (taken_over c last now over)
unfolding taken_over
fair_over c last now over = fair_cross TwelveOrThirteen (inr refl) _ _ _ _ _ (λ e. inl refl)

fair_pentagon : (c : Cell) (last now : Place) → Fair TwelveOrThirteen (pentagon_crossing c last now)
unfolding pentagon_crossing
fair_pentagon c last now = either (Fair TwelveOrThirteen) (bad_edge (dir_to now.face last.face)) (refused (inl refl)) (fair_over _ _ _ _)

pub fair : (s : Shape) (k : ℕ) → Fair TwelveOrThirteen (before_at s k)
unfolding before_at crossing_between
fair s zero = none
fair s (suc k) =
    either (Fair TwelveOrThirteen) s.cell.odd
    (either (Fair TwelveOrThirteen) (eqb s.sides 5) (fair_pentagon _ _ _) (fair_hexagon TwelveOrThirteen (inr refl) _ _ _ _ (λ d e. inl refl)))
    none

-- the verdict of the first turns has a refusal that each of them allows
module _ (P : Refusal → Type 0) where
  abbrev Allows : Verdict → Type 0
  Allows (Ok _) = Unit {0}
  Allows (Err r) = P r

  allows_before : (b : Result (Option BoundaryPoint) Refusal) → Fair P b → Allows (verdict_before b)
  allows_before (Ok None) h = tt
  allows_before (Ok (Some p)) h = tt
  allows_before (Err r) (refused h) = h

  allows_either : (a b : Verdict) → Allows a → Allows b → Allows (or_else a b)
  allows_either (Ok _) b f g = g
  allows_either (Err r) b f g = f

  allows_to : (s : Shape) → ((k : ℕ) → Fair P (before_at s k)) → (k : ℕ) → Allows (verdict_to s k)
  unfolding verdict_to
  allows_to s h zero = tt
  allows_to s h (suc k) = allows_either (verdict_to s k) _ (allows_to s h k) (allows_before (before_at s k) (h k))

  pub allowed : (s : Shape) → ((k : ℕ) → Fair P (before_at s k)) → (k : ℕ) (r : Refusal) → verdict_to s k ≡ Err r → P r
  allowed s h k r e = subst Allows e (allows_to s h k)

-- A crossing point is refused by 12 or 13 only.
pub twelve_or_thirteen : (s : Shape) (k : ℕ) (r : Refusal) → verdict_to s k ≡ Err r → TwelveOrThirteen r
twelve_or_thirteen s k r e = allowed TwelveOrThirteen s (fair s) k r e
