-- The pentagon turn in document 01's words, "a CW sixth turn about (m,0,0)", over whole numbers with sign: `about_corner` is this turn (proofs/Corner).
use Rattle.std.specs.Prelude.{ℕ}
use Rattle.coordijk.specs.declared.CoordIJK.{CoordIJK}
use Rattle.coordijk.specs.declared.GridMap.TheVariants.{SixthTurnCw}
use Rattle.coordijk.specs.Coordinates.{coord}
use Rattle.coordijk.specs.Maps.{row_of}
use Rattle.coordijk.specs.Signed.{Signed, with_sign, plus_z, minus_z, sent_z, reduced_z}

-- (m,0,0)
abbrev pub corner : ℕ → CoordIJK
corner m = coord m 0 0

-- a triple as it is seen from (m,0,0)
abbrev pub from : ℕ → CoordIJK → Signed
from m c = minus_z (with_sign c) (with_sign (corner m))

-- (m,0,0) taken away, the CW sixth turn's row of the table, (m,0,0) added again, reduced
abbrev pub turned_about : ℕ → CoordIJK → CoordIJK
turned_about m c = reduced_z (plus_z (sent_z (row_of SixthTurnCw) (from m c)) (with_sign (corner m)))
