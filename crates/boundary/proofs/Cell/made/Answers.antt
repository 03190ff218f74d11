-- `Cell::made` meets its contract: the centre through the apertures, the raised level, its grid and its limit. Assumes nothing.
use mathlib.Core.Path.{◌≡◌}
use mathlib.Core.Bool.{false}
use native.Mathlib.Omega.{arith}
use Rattle.level.specs.Levels.{bad_grid, unit_of, limit_of, Sound}
use Rattle.faceijk.proofs.Taking.{sound_at}
use Rattle.boundary.specs.Landing.{cell_of}
use Rattle.boundary.proofs.Cells.{level_taken}
use Rattle.boundary.proofs.Cell.made.Goals as goal

pub overflow_mul-result : goal.overflow_mul-result
overflow_mul-result c =
    let taken : bad_grid c.grid_level-grid.result.0 ≡ false = rw c.grid_level-grid.ensures (level_taken c.args.level.0 c.requires.1) in
    let sound : Sound c.plain_grid-plain.result = rw c.plain_grid-plain.ensures (sound_at c.grid_level-grid.result.0 false taken) in
    omega (arith, sound.small)

pub overflow_mul-result-2 : goal.overflow_mul-result-2
overflow_mul-result-2 c =
    let taken : bad_grid c.grid_level-grid.result.0 ≡ false = rw c.grid_level-grid.ensures (level_taken c.args.level.0 c.requires.1) in
    let sound : Sound c.plain_grid-plain.result = rw c.plain_grid-plain.ensures (sound_at c.grid_level-grid.result.0 false taken) in
    let s = sound in omega (arith, s.twice, s.small)

pub returns : goal.returns
unfolding cell_of unit_of limit_of
returns c =
    rw (
      c.new.ensures,
      c.plain_grid-plain.ensures,
      c.grid_level-grid.ensures,
      c.through_apertures-c.ensures,
      c.coord.ensures,
      c.is_odd-odd.ensures,
    )
