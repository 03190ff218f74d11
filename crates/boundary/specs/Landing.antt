-- What a boundary is walked round, and how a corner comes to its own face: hexagon boundaries cross each corner once, pentagon boundaries settle it.
use Rattle.std.specs.Prelude.{true, false, ℕ, ◌+◌, ◌%◌, ◌<◌, eqb}
use Rattle.reply.specs.Choice.{pick}
use Rattle.level.specs.declared.Grid.{Grid}
use Rattle.level.specs.declared.GridLevel.{GridLevel}
use Rattle.level.specs.Levels.{raised_of, grid_of, limit_of}
use Rattle.faceijk.specs.declared.Place.{Place}
use Rattle.faceijk.specs.declared.Landed.{Landed}
use Rattle.faceijk.specs.declared.Overage.TheVariants.{None}
use Rattle.faceijk.specs.Places.{place, coord_of, sum_at, QAt}
use Rattle.faceijk.specs.Crossing.{landed, step_out, crossing_of, settle_from}
use Rattle.boundary.specs.declared.Cell.{Cell}
use Rattle.boundary.specs.declared.Shape.{Shape}
use Rattle.boundary.specs.Corners.{class_iii, through_apertures, corner_of}

-- a cell on its substrate grid: the centre after the apertures, the grid level, that grid, the limit m of the plain grid
unfoldable pub cell_of : Place → ℕ → Cell
cell_of p l =
    record {
      centre = place p.face (through_apertures (class_iii l) (coord_of p));
      level = record { 0 = raised_of l };
      grid = grid_of (raised_of l) true;
      m = limit_of (raised_of l) false;
      odd = class_iii l;
    }

abbrev pub shape_of : ℕ → Cell → ℕ → Shape
shape_of sides c start = record { cell = c; sides = sides; start = start }

abbrev pub substrate_of : GridLevel → Grid
substrate_of l = grid_of l.0 true

-- the corner v on the centre's face
abbrev pub corner_place : Cell → ℕ → Place
corner_place c v = place c.centre.face (corner_of c.odd (coord_of c.centre) v)

-- how a corner lands; a pentagon's overage is never asked for
abbrev pub crossed_once : Grid → Place → Landed
crossed_once g p = crossing_of false g p

abbrev pub settled_at : Grid → Place → Landed
settled_at g p = landed (settle_from (QAt p) g p 0).place None

unfoldable pub land_from : ℕ → Grid → Place → Landed
land_from sides g p = pick (eqb sides 5) (settled_at g p) (crossed_once g p)

-- turn k comes to this corner, and it lands so
abbrev pub vertex_of : Shape → ℕ → ℕ
vertex_of s k = (s.start + k) % s.sides

unfoldable pub land_at : Shape → ℕ → Landed
land_at s k = land_from s.sides (substrate_of s.cell.level) (corner_place s.cell (vertex_of s k))

-- crossings lead from p to q, each made because s exceeds m
pub data Reached (g : Grid) : Place → Place → Type 0 where
  here : {p : Place} → Reached g p p
  over : {p q : Place} → g.limit < sum_at p → Reached g (step_out false g p) q → Reached g p q
