-- One boundary with a crossing point holds of the definition, the whole reply, bit for bit. Assumes nothing.
use mathlib.Core.Path.{◌≡◌, refl}
use lib.Ieee.{of_bits, to_bits, add, sub, mul, div, neg, lt, le, eq, of_int, round}
use Rattle.level.specs.Levels.{unit_of, limit_of}
use Rattle.coordijk.specs.Coordinates.{reduced}
use Rattle.coordijk.specs.Maps.{map_of, turns_of}
use Rattle.faceijk.specs.Steps.{move_over, step_of}
use Rattle.faceijk.specs.Crossing.{step_out, crossing_of}
use Rattle.double.specs.Double.{mul_add_of}
use Rattle.vec2d.specs.Points.{is_point}
use Rattle.vec2d.specs.Centre.{centre_of}
use Rattle.vec2d.specs.Meeting.{along, divisor_of, share_of, reached_of, crossing_of as meeting_of, met_of}
use Rattle.vec2d.specs.Closeness.{close}
use Rattle.boundary.specs.Corners.{through_apertures, corner_of}
use Rattle.boundary.specs.Landing.{cell_of, land_from, land_at}
use Rattle.boundary.specs.CrossingPoints.{edge_line, cross_at, away_face, hexagon_crossing, crossing_between, before_at}
use Rattle.boundary.specs.Boundaries.{points_in, points_to, verdict_to, boundary_verdict, boundary_points, room_with, boundary_reply}
use Rattle.boundary.specs.Checked.{crossed}

pub crossed_right : boundary_reply 6 (record { face = 0; i = 0; j = 0; k = 3 }) 1 0 6 ≡ crossed
unfolding reduced map_of turns_of through_apertures corner_of unit_of limit_of move_over step_of step_out crossing_of is_point centre_of along divisor_of share_of reached_of meeting_of met_of mul_add_of close cell_of land_from land_at edge_line cross_at away_face hexagon_crossing crossing_between before_at points_in points_to verdict_to boundary_verdict boundary_points room_with of_bits to_bits add sub mul div neg lt le eq of_int round
crossed_right = refl
