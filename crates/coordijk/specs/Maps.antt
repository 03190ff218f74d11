-- The maps of document 01's table: each sends i, j, k to the three vectors named, adds them up and reduces.
use Rattle.reply.specs.declared.Refusal.{Refusal}
use Rattle.std.specs.Prelude.{ℕ, zero, suc, ◌+◌, ◌*◌, Result}
use Rattle.reply.specs.Replies.{Reply, reply, said}
use Rattle.coordijk.specs.declared.CoordIJK.{CoordIJK}
use Rattle.coordijk.specs.declared.GridMap.{GridMap}
use Rattle.coordijk.specs.declared.GridMap.TheVariants.{SixthTurnCcw, SixthTurnCw, Aperture3Ccw, Aperture3Cw, Aperture7Cw}
use Rattle.coordijk.specs.Coordinates.{coord, reduced, verdict_of, coord_values}

-- the vectors that i, j and k are sent to
pub record Row : Type 0 where
  pub of_i : CoordIJK
  pub of_j : CoordIJK
  pub of_k : CoordIJK

abbrev row : CoordIJK → CoordIJK → CoordIJK → Row
row a b c = record { of_i = a; of_j = b; of_k = c }

-- the table
abbrev pub row_of : GridMap → Row
row_of SixthTurnCcw = row (coord 1 1 0) (coord 0 1 1) (coord 1 0 1)
row_of SixthTurnCw = row (coord 1 0 1) (coord 1 1 0) (coord 0 1 1)
row_of Aperture3Ccw = row (coord 2 0 1) (coord 1 2 0) (coord 0 1 2)
row_of Aperture3Cw = row (coord 2 1 0) (coord 0 2 1) (coord 1 0 2)
row_of Aperture7Cw = row (coord 3 1 0) (coord 0 3 1) (coord 1 0 3)

abbrev pub sends_by : Row → CoordIJK → CoordIJK
sends_by r c =
    reduced
    (r.of_i.i * c.i + r.of_j.i * c.j + r.of_k.i * c.k)
    (r.of_i.j * c.i + r.of_j.j * c.j + r.of_k.j * c.k)
    (r.of_i.k * c.i + r.of_j.k * c.j + r.of_k.k * c.k)

unfoldable pub map_of : GridMap → CoordIJK → CoordIJK
map_of m c = sends_by (row_of m) c

-- n sixth turns CCW
unfoldable pub turns_of : ℕ → CoordIJK → CoordIJK
turns_of zero c = c
turns_of (suc n) c = turns_of n (map_of SixthTurnCcw c)

-- the entry, in the paper's numbers
abbrev pub said_mapped : Result CoordIJK Refusal → Reply
said_mapped = said 3 coord_values

abbrev pub map_reply : GridMap → CoordIJK → Reply
map_reply m c = reply 3 (verdict_of c) (coord_values (map_of m c))
