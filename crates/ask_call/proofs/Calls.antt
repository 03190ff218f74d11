-- What each function of the C face gives lies in an answer as its question's kinds say. Assumes nothing.
use mathlib.Core.Path.{◌≡◌, refl, ◌∙◌}
use mathlib.Core.Bool.{Bool, true, false, ◌||◌}
use mathlib.Core.List.{List, [], ◌∷◌}
use Prim.Native.Nat.{ℕ, ◌≤◌}
use lib.Dec.{lit≤}
use lib.Ieee.{Float, binary64, to_bits}
use Rattle.reply.specs.Choice.{pick}
use Rattle.reply.specs.declared.Refusal.TheVariants.{BadFace}
use Rattle.reply.specs.Replies.{first, when, zeros}
use Rattle.coordijk.specs.declared.CoordIJK.{CoordIJK}
use Rattle.coordijk.specs.Coordinates.{verdict_of}
use Rattle.coordijk.specs.Maps.{map_of}
use Rattle.level.specs.Levels.{grid_of, raised_of}
use Rattle.faceijk.specs.declared.Place.{Place}
use Rattle.faceijk.specs.Places.{place, coord_of, place_values, QAt, bad_face, place_verdict, on_grid_verdict, over_edge_verdict}
use Rattle.faceijk.specs.Faces.{dir_to}
use Rattle.faceijk.specs.Steps.{step_of}
use Rattle.faceijk.specs.Crossing.{crossing_of, settle_from}
use Rattle.faceijk.specs.Entries.{turn_map, turn_reply, bad_edge, step_reply, landed_values, cross_reply, rested_values, settle_reply, direction_reply}
use Rattle.names.specs.Row.{same_of, first_of}
use Rattle.names.specs.Entries.{names_verdict, first_reply, same_reply}
use Rattle.vec2d.specs.declared.Vec2d.{Vec2d}
use Rattle.vec2d.specs.declared.Leftovers.{Leftovers}
use Rattle.vec2d.specs.declared.Line.{Line}
use Rattle.vec2d.specs.Rounding.{round_verdict, nearest_of, leftovers_of, left_values, found_of, found_values, round_reply}
use Rattle.vec2d.specs.Centre.{centre_of, centre_reply}
use Rattle.vec2d.specs.Meeting.{meet_verdict, meet_reply}
use Rattle.vec2d.specs.Meeting.{crossing_of as meeting_of}
use Rattle.vec3d.specs.declared.Vec3d.{Vec3d}
use Rattle.vec3d.specs.Frame.{face_at, bad_frame}
use Rattle.vec3d.specs.Nearest.{nearest_verdict, nearest_values, nearest_to, nearest_reply}
use Rattle.locate.specs.Locating.{locate_verdict, spot_of, spot_values, locate_reply}
use Rattle.boundary.specs.Corners.{corners_verdict, coords_values, corners_at, six_corners, corners_reply}
use Rattle.boundary.specs.Boundaries.{boundary_reply}
use Rattle.root.specs.Root.{root_verdict, root_of, root_reply}
use Rattle.globe.specs.Points.{scale_of, sphere_of, sphere_verdict, vector_values, sphere_reply}
use Rattle.globe.specs.Boundaries.{globe_reply}
use Rattle.lent.specs.Lent.{held, Gives, GivesFramed, GivesParts}
use Rattle.lent_borders.specs.Borders.{marks_of, points_of, GivesBoundary}
use Rattle.lent_globe.specs.Globes as sphere
use Rattle.lent_globe.specs.Globes.{GivesGlobe}
use Rattle.ask_read.specs.declared.Asked.TheVariants.{Round, Centre, Meet, Turn, Step, Cross, Settle, Direction, Same, Nearest, Corners, Root, Sphere, First}
use Rattle.ask_read.specs.declared.Asked.{Asked}
use Rattle.ask_call.specs.Replies.{kinds_of, numbers_in, doubles_in, Holds}
use Rattle.ask_call.proofs.Holding.{Parted, nothing, number as front, double, doubles, gives, gives_doubles, gives_parts, framed}
use Rattle.ask_call.proofs.Bordering.{point_kinds, border, globe, globe_framed}

module _ {k : ℕ} {out ns ds : List ℕ} (clear : out ≡ zeros 25) (none : ds ≡ zeros 36) where
  pub turn : (p : Place) (clockwise : Bool) → Gives 4 (turn_reply p clockwise) out ns k → Holds Turn (turn_reply p clockwise) k ns ds
  unfolding numbers_in doubles_in
  turn p clockwise =
      gives Turn 4 (place_verdict p) (place_values (place p.face (map_of (turn_map clockwise) (coord_of p)))) refl refl refl refl (lit≤ tt) clear none

  pub step : (p : Place) (l : ℕ) (substrate : Bool) (e : ℕ) → Gives 4 (step_reply p l substrate e) out ns k → Holds Step (step_reply p l substrate e) k ns ds
  unfolding numbers_in doubles_in
  step p l substrate e =
      gives Step 4 (over_edge_verdict p l (bad_edge e)) (place_values (step_of p e (grid_of l substrate).unit)) refl refl refl refl (lit≤ tt) clear none

  pub cross : (p : Place) (l : ℕ) (substrate turned : Bool) → Gives 5 (cross_reply p l substrate turned) out ns k → Holds Cross (cross_reply p l substrate turned) k ns ds
  unfolding numbers_in doubles_in
  cross p l substrate turned =
      gives Cross 5 (on_grid_verdict p l) (landed_values (crossing_of turned (grid_of l substrate) p)) refl refl refl refl (lit≤ tt) clear none

  pub settle : (p : Place) (l : ℕ) (substrate : Bool) → Gives 5 (settle_reply p l substrate) out ns k → Holds Settle (settle_reply p l substrate) k ns ds
  unfolding numbers_in doubles_in
  settle p l substrate =
      gives Settle 5 (on_grid_verdict p l) (rested_values (settle_from (QAt p) (grid_of l substrate) p 0)) refl refl refl refl (lit≤ tt) clear none

  pub direction : (f g : ℕ) → Gives 1 (direction_reply f g) out ns k → Holds Direction (direction_reply f g) k ns ds
  unfolding numbers_in doubles_in
  direction f g =
      gives Direction 1 (first (when (bad_face f || bad_face g) BadFace ∷ [])) (dir_to f g ∷ []) refl refl refl refl (lit≤ tt) clear none

  pub same : (p q : Place) (l : ℕ) → Gives 1 (same_reply p q l) out ns k → Holds Same (same_reply p q l) k ns ds
  unfolding numbers_in doubles_in
  same p q l = gives Same 1 (names_verdict p q l) (pick (same_of (grid_of l true) p q) 1 0 ∷ []) refl refl refl refl (lit≤ tt) clear none

  pub first_of_lem : (p : Place) (l : ℕ) → Gives 4 (first_reply p l) out ns k → Holds First (first_reply p l) k ns ds
  unfolding numbers_in doubles_in
  first_of_lem p l = gives First 4 (names_verdict p p l) (place_values (first_of (grid_of l true) p)) refl refl refl refl (lit≤ tt) clear none

  pub corners : (p : Place) (l : ℕ) → Gives 19 (corners_reply p l) out ns k → Holds Corners (corners_reply p l) k ns ds
  unfolding numbers_in doubles_in six_corners
  corners p l =
      gives Corners 19 (corners_verdict p l) (raised_of l ∷ coords_values (corners_at (coord_of p) l)) refl refl refl refl (lit≤ tt) clear none

module _ {k : ℕ} {out ns ds : List ℕ} (clear : ns ≡ zeros 25) (none : out ≡ zeros 36) where
  pub centre : (c : CoordIJK) → Gives 2 (centre_reply c) out ds k → Holds Centre (centre_reply c) k ns ds
  unfolding numbers_in doubles_in
  centre c =
      gives_doubles Centre 2 (verdict_of c) (to_bits binary64 (centre_of c).x ∷ to_bits binary64 (centre_of c).y ∷ []) refl refl refl refl (lit≤ tt) clear none

  pub meet : (a b : Line) → Gives 2 (meet_reply a b) out ds k → Holds Meet (meet_reply a b) k ns ds
  unfolding numbers_in doubles_in
  meet a b =
      gives_doubles Meet 2 (meet_verdict a b) (to_bits binary64 (meeting_of a b).at.x ∷ to_bits binary64 (meeting_of a b).at.y ∷ []) refl refl refl refl (lit≤ tt) clear none

  pub root : (x : Float) → Gives 1 (root_reply x) out ds k → Holds Root (root_reply x) k ns ds
  unfolding numbers_in doubles_in
  root x = gives_doubles Root 1 (root_verdict x) (to_bits binary64 (root_of x) ∷ []) refl refl refl refl (lit≤ tt) clear none

  pub sphere_of_lem : (s : List Float) (f l : ℕ) (p : Vec2d) → GivesFramed (bad_frame s) 3 (sphere_reply s f l p) out ds k → Holds Sphere (sphere_reply s f l p) k ns ds
  unfolding numbers_in doubles_in
  sphere_of_lem s f l p g =
      let r = sphere_reply s f l p in
      let vs = vector_values (sphere_of (face_at s f) (scale_of l) p) in
      let number : k ≡ r.number = (rw none at g.number) ∙ framed (bad_frame s) 3 _ vs in
      let so : ds ≡ held k 3 r.values (zeros 36) = rw none at g.values in
      doubles Sphere 3 (sphere_verdict s f l p) vs refl refl refl refl number so clear

-- two leftovers at the end of an answer
lefts : (l : Leftovers) → Parted (120 ∷ 120 ∷ []) (left_values l) [] (left_values l)
lefts l = double 120 (to_bits binary64 l.r1) refl (double 120 (to_bits binary64 l.r2) refl nothing)

module _ {k : ℕ} {words ns doubles₀ ds : List ℕ} (clear : words ≡ zeros 25) (none : doubles₀ ≡ zeros 36) where
  pub round : (p : Vec2d) → GivesParts false 3 2 (round_reply p) words ns doubles₀ ds k → Holds Round (round_reply p) k ns ds
  unfolding numbers_in doubles_in
  round p =
      let c = nearest_of p in
      gives_parts Round false 5 3 2 (round_verdict p) (found_values (found_of p)) refl refl refl (lit≤ tt) (lit≤ tt)
      (front 110 c.i refl (front 110 c.j refl (front 110 c.k refl (lefts (leftovers_of p))))) refl clear none

  pub place_of : (s : List Float) (l : ℕ) (p : Vec3d) → GivesParts (bad_frame s) 4 2 (locate_reply s l p) words ns doubles₀ ds k → Holds Asked.Place (locate_reply s l p) k ns ds
  unfolding numbers_in doubles_in
  place_of s l p =
      let t = spot_of s l p in
      let c = t.place in
      gives_parts Asked.Place (bad_frame s) 6 4 2 (locate_verdict s l p) (spot_values t) refl refl refl (lit≤ tt) (lit≤ tt)
      (front 110 c.face refl (front 110 c.i refl (front 110 c.j refl (front 110 c.k refl (lefts t.left)))))
      (framed (bad_frame s) 6 _ (spot_values t)) clear none

  pub nearest : (s : List Float) (p : Vec3d) → GivesParts (bad_frame s) 1 1 (nearest_reply s p) words ns doubles₀ ds k → Holds Nearest (nearest_reply s p) k ns ds
  unfolding numbers_in doubles_in
  nearest s p =
      let n = nearest_to s p 19 in
      gives_parts Nearest (bad_frame s) 2 1 1 (nearest_verdict s p) (nearest_values n) refl refl refl (lit≤ tt) (lit≤ tt)
      (front 110 n.face refl (double 120 (to_bits binary64 n.distance) refl nothing)) (framed (bad_frame s) 2 _ (nearest_values n)) clear none

  pub border_of : (a : Asked) (sides : ℕ) (p : Place) (l start n : ℕ) → kinds_of a ≡ 110 ∷ point_kinds 2 12 → sides ≤ 6 → GivesBoundary (boundary_reply sides p l start n) words ns doubles₀ ds k → Holds a (boundary_reply sides p l start n) k ns ds
  border_of a sides p l start n t few g =
      let r = boundary_reply sides p l start n in
      let number : k ≡ r.number = rw (clear, none) at g.number in
      let one : ns ≡ held k 25 (marks_of r.values) (zeros 25) = rw clear at g.one in
      let other : ds ≡ held k 24 (points_of r.values) (zeros 36) = rw none at g.other in
      border sides p l start n a t few number one other

  pub globe_of : (a : Asked) (sides : ℕ) (s : List Float) (p : Place) (l start n : ℕ) → kinds_of a ≡ 110 ∷ point_kinds 3 12 → sides ≤ 6 → GivesGlobe (bad_frame s) (globe_reply sides s p l start n) words ns doubles₀ ds k → Holds a (globe_reply sides s p l start n) k ns ds
  globe_of a sides s p l start n t few g =
      let r = globe_reply sides s p l start n in
      let number : k ≡ r.number = (rw (clear, none) at g.number) ∙ globe_framed sides p l start n s in
      let one : ns ≡ held k 25 (sphere.marks_of r.values) (zeros 25) = rw clear at g.one in
      let other : ds ≡ held k 36 (sphere.vectors_of r.values) (zeros 36) = rw none at g.other in
      globe sides p l start n s a t few number one other
