-- The entries on places, in the paper's numbers: what each answer says, and what each entry owes.
use Rattle.faceijk.specs.declared.Direction.{Direction}
use Rattle.reply.specs.declared.Refusal.{Refusal}
use Rattle.std.specs.Prelude.{Bool, ◌||◌, List, [], ◌∷◌, ◌++◌, ℕ, ltb, Result}
use Rattle.reply.specs.Choice.{pick}
use Rattle.reply.specs.declared.Refusal.TheVariants.{BadFace}
use Rattle.reply.specs.Replies.{Reply, when, first, reply, said}
use Rattle.level.specs.Levels.{grid_of}
use Rattle.coordijk.specs.declared.GridMap.{GridMap}
use Rattle.coordijk.specs.declared.GridMap.TheVariants.{SixthTurnCcw, SixthTurnCw}
use Rattle.coordijk.specs.Coordinates.{reduced}
use Rattle.coordijk.specs.Maps.{map_of}
use Rattle.faceijk.specs.declared.Place.{Place}
use Rattle.faceijk.specs.declared.Overage.{Overage}
use Rattle.faceijk.specs.declared.Overage.TheVariants.{None, FaceEdge, NewFace}
use Rattle.faceijk.specs.declared.Landed.{Landed}
use Rattle.faceijk.specs.declared.Rested.{Rested}
use Rattle.faceijk.specs.Places.{place, coord_of, place_values, QAt, bad_face, place_verdict, on_grid_verdict, over_edge_verdict}
use Rattle.faceijk.specs.Faces.{dir_to, direction_number}
use Rattle.faceijk.specs.Steps.{step_of}
use Rattle.faceijk.specs.Crossing.{crossing_of, settle_from}

-- reducing a place
abbrev pub reduce_of : Place → Place
reduce_of p = place p.face (reduced p.i p.j p.k)

-- a place, or a refusal
abbrev pub said_moved : Result Place Refusal → Reply
said_moved = said 4 place_values

abbrev pub turn_map : Bool → GridMap
turn_map clockwise = pick clockwise SixthTurnCw SixthTurnCcw

abbrev pub turn_reply : Place → Bool → Reply
turn_reply p clockwise = reply 4 (place_verdict p) (place_values (place p.face (map_of (turn_map clockwise) (coord_of p))))

-- BadRange: edge not 1..3
abbrev pub bad_edge : ℕ → Bool
bad_edge e = ltb e 1 || ltb 3 e

abbrev pub step_reply : Place → ℕ → Bool → ℕ → Reply
step_reply p l substrate e = reply 4 (over_edge_verdict p l (bad_edge e)) (place_values (step_of p e (grid_of l substrate).unit))

-- a place and how the crossing ended
abbrev pub overage_number : Overage → ℕ
overage_number None = 0
overage_number FaceEdge = 1
overage_number NewFace = 2

abbrev pub landed_values : Landed → List ℕ
landed_values c = place_values c.place ++ overage_number c.overage ∷ []

abbrev pub said_crossed : Result Landed Refusal → Reply
said_crossed = said 5 landed_values

abbrev pub cross_reply : Place → ℕ → Bool → Bool → Reply
cross_reply p l substrate turn = reply 5 (on_grid_verdict p l) (landed_values (crossing_of turn (grid_of l substrate) p))

-- a place and the number of steps over an edge
abbrev pub rested_values : Rested → List ℕ
rested_values s = place_values s.place ++ s.steps ∷ []

abbrev pub said_settled : Result Rested Refusal → Reply
said_settled = said 5 rested_values

abbrev pub settle_reply : Place → ℕ → Bool → Reply
settle_reply p l substrate = reply 5 (on_grid_verdict p l) (rested_values (settle_from (QAt p) (grid_of l substrate) p 0))

-- a direction
abbrev pub said_directed : Result Direction Refusal → Reply
said_directed = said 1 (λ d. direction_number d ∷ [])

abbrev pub direction_reply : ℕ → ℕ → Reply
direction_reply f g = reply 1 (first (when (bad_face f || bad_face g) BadFace ∷ [])) (dir_to f g ∷ [])
