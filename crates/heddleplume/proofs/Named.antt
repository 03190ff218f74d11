-- Each corner that a boundary gives, as a place before it becomes doubles, has a first name; and the one exception. Assumes nothing.
use mathlib.Core.Path.{◌≡◌, refl}
use mathlib.Core.Bool.{true}
use Prim.Native.Nat.{ℕ, ◌≤◌}
use Rattle.reply.specs.declared.Refusal.TheVariants.{OutOfFace}
use Rattle.reply.specs.Replies.{first, answer, refusal, fine}
use Rattle.level.specs.Levels.{unit_of, limit_of, raised_of, grid_of}
use Rattle.coordijk.specs.Coordinates.{reduced}
use Rattle.coordijk.specs.Maps.{map_of, turns_of}
use Rattle.faceijk.specs.declared.Place.{Place}
use Rattle.faceijk.specs.Places.{coord_of, place_values}
use Rattle.faceijk.specs.Steps.{move_over, step_of}
use Rattle.faceijk.specs.Crossing.{step_out, crossing_of}
use Rattle.names.specs.Row.{first_of}
use Rattle.names.specs.Entries.{first_reply}
use Rattle.names.proofs.Answers.{named}
use Rattle.boundary.specs.Corners.{through_apertures, corner_of}
use Rattle.boundary.specs.Landing.{cell_of, land_from, land_at}
use Rattle.boundary.specs.Boundaries.{boundary_reasons, asked_shape}
use Rattle.boundary.proofs.Cells.{level_taken}
use Rattle.boundary.proofs.CornerFaces.{asked_of}
use Rattle.boundary.proofs.Home.{NoCorner, corners_home}
use Rattle.lent.specs.Lent.{at}

-- the corner of turn k has a first name, on the grid level to which the cell's is raised; of a hexagon where its centre is no corner of its face
pub corners_named : (sides : ℕ) (p : Place) (l start n : ℕ) → 5 ≤ sides → sides ≤ 6 → first (boundary_reasons sides p l start n) ≡ fine → let s = asked_shape sides p l start in let g = grid_of (raised_of l) true in
    (sides ≡ 6 → NoCorner g.limit (coord_of s.cell.centre)) → (k : ℕ) → first_reply (land_at s k).place (raised_of l) ≡ answer (place_values (first_of g (land_at s k).place))
unfolding cell_of
corners_named sides p l start n many few e apart k =
    let h = corners_home sides p l start n many few e apart k in
    named (land_at (asked_shape sides p l start) k).place (raised_of l) (level_taken l (asked_of sides p l start n e).level) (record { okay = h.0; inside = h.1 })

-- a hexagon that is asked for where a pentagon lies, 0;2,0,0 of level 0, is taken, and the one crossing of document 01 leaves its first corner at 4;7,2,0, outside its face
pub misplaced : (first (boundary_reasons 6 (at 0 2 0 0) 0 0 6) ≡ fine) × ((land_at (asked_shape 6 (at 0 2 0 0) 0 0) 0).place ≡ at 4 7 2 0) × (first_reply (at 4 7 2 0) 0 ≡ refusal 4 OutOfFace)
unfolding unit_of limit_of reduced map_of turns_of move_over step_of step_out crossing_of through_apertures corner_of cell_of land_from land_at first_of
misplaced = (refl, refl, refl)
