-- Coordinates with sign, where a rule of document 01 goes below zero on its way: adding, a row of the table, and reducing.
use Rattle.std.specs.Prelude.{ℤ, pos, nat_abs, ◌+ℤ◌, ◌-ℤ◌, ◌*ℤ◌}
use Rattle.std.specs.Int.Signed.{le_z}
use Rattle.reply.specs.Choice.{pick}
use Rattle.coordijk.specs.declared.CoordIJK.{CoordIJK}
use Rattle.coordijk.specs.Coordinates.{coord}
use Rattle.coordijk.specs.Maps.{Row}

pub record Signed : Type 0 where
  pub i : ℤ
  pub j : ℤ
  pub k : ℤ

abbrev pub signed : ℤ → ℤ → ℤ → Signed
signed i j k = record { i = i; j = j; k = k }

-- a triple of the grid is one with sign
abbrev pub with_sign : CoordIJK → Signed
with_sign c = signed (pos c.i) (pos c.j) (pos c.k)

abbrev pub plus_z : Signed → Signed → Signed
plus_z a b = signed (a.i +ℤ b.i) (a.j +ℤ b.j) (a.k +ℤ b.k)

abbrev pub minus_z : Signed → Signed → Signed
minus_z a b = signed (a.i -ℤ b.i) (a.j -ℤ b.j) (a.k -ℤ b.k)

-- i, j, k sent to the three vectors of a row and added up
abbrev pub sent_z : Row → Signed → Signed
sent_z r c =
    signed
    (pos r.of_i.i *ℤ c.i +ℤ pos r.of_j.i *ℤ c.j +ℤ pos r.of_k.i *ℤ c.k)
    (pos r.of_i.j *ℤ c.i +ℤ pos r.of_j.j *ℤ c.j +ℤ pos r.of_k.j *ℤ c.k)
    (pos r.of_i.k *ℤ c.i +ℤ pos r.of_j.k *ℤ c.j +ℤ pos r.of_k.k *ℤ c.k)

abbrev pub least_z : ℤ → ℤ → ℤ
least_z a b = pick (le_z a b) a b

-- reducing: the least is subtracted from all three, and none is below zero then
abbrev pub reduced_z : Signed → CoordIJK
reduced_z c =
    let l = least_z c.i (least_z c.j c.k) in
    coord (nat_abs (c.i -ℤ l)) (nat_abs (c.j -ℤ l)) (nat_abs (c.k -ℤ l))
