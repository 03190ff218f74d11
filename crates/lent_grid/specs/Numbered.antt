-- The five maps of document 01's table by a number: that of their row, from 1 on.
use Rattle.std.specs.Prelude.{Bool, ◌||◌, ℕ, ltb, eqb}
use Rattle.reply.specs.Choice.{pick}
use Rattle.reply.specs.declared.Refusal.TheVariants.{BadRange}
use Rattle.reply.specs.Replies.{Reply, refusal}
use Rattle.coordijk.specs.declared.CoordIJK.{CoordIJK}
use Rattle.coordijk.specs.declared.GridMap.{GridMap}
use Rattle.coordijk.specs.declared.GridMap.TheVariants.{SixthTurnCcw, SixthTurnCw, Aperture3Ccw, Aperture3Cw, Aperture7Cw}
use Rattle.coordijk.specs.Maps.{map_reply}

-- BadRange: a map not 1..5
abbrev pub bad_map : ℕ → Bool
bad_map n = ltb n 1 || ltb 5 n

unfoldable pub map_at : ℕ → GridMap
map_at n =
    pick (eqb n 1) SixthTurnCcw (pick (eqb n 2) SixthTurnCw (pick (eqb n 3) Aperture3Ccw (pick (eqb n 4) Aperture3Cw Aperture7Cw)))

-- a triple under the map of a number; a number that is none's gets 5
abbrev pub numbered_reply : ℕ → CoordIJK → Reply
numbered_reply n c = pick (bad_map n) (refusal 3 BadRange) (map_reply (map_at n) c)
