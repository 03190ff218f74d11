-- The step over an edge: document 01's table of turns and translations.
use Rattle.std.specs.Prelude.{Bool, ◌||◌, ℕ, ◌+◌, ◌*◌, ltb, eqb}
use Rattle.reply.specs.Choice.{pick}
use Rattle.coordijk.specs.declared.CoordIJK.{CoordIJK}
use Rattle.coordijk.specs.Coordinates.{coord, reduced}
use Rattle.coordijk.specs.Maps.{turns_of}
use Rattle.faceijk.specs.declared.Place.{Place}
use Rattle.faceijk.specs.Places.{place, coord_of}
use Rattle.faceijk.specs.Faces.{face_over}

-- how a step goes: the number of CCW turns, and the translation in unit scales
pub record Move : Type 0 where
  pub turns : ℕ
  pub by : CoordIJK

abbrev pub move : ℕ → ℕ → ℕ → ℕ → Move
move n x y z = record { turns = n; by = coord x y z }

-- the table's rows: faces 0..4 and 15..19, and faces 5..14
abbrev pub polar : ℕ → Bool
polar f = ltb f 5 || ltb 14 f

abbrev pub polar_move : ℕ → Move
polar_move e = pick (eqb e 1) (move 1 2 0 2) (pick (eqb e 2) (move 5 2 2 0) (move 3 0 2 2))

abbrev pub equator_move : ℕ → Move
equator_move e = pick (eqb e 1) (move 3 2 2 0) (pick (eqb e 2) (move 3 2 0 2) (move 3 0 2 2))

unfoldable pub move_over : ℕ → ℕ → Move
move_over f e = pick (polar f) (polar_move e) (equator_move e)

-- the translation v, u times, added to c, reduced
abbrev pub translated : CoordIJK → CoordIJK → ℕ → CoordIJK
translated c v u = reduced (c.i + v.i * u) (c.j + v.j * u) (c.k + v.k * u)

-- the step over edge e, the unit scale (times 3 on substrate) being u
unfoldable pub step_of : Place → ℕ → ℕ → Place
step_of p e u =
    let m = move_over p.face e in
    place (face_over p.face e) (translated (turns_of m.turns (coord_of p)) m.by u)
