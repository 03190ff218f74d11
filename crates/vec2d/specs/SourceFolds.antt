-- The two folds as the source writes them, `From<Vec2d> for CoordIJK`. They are those of Rounding (proofs/SourceFolds): the parity offset cancels, since
-- twice the axis is j and the offset, and the offset is taken off again; and (2j + 1)/2 is j.
use Rattle.std.specs.Prelude.{Bool, ℤ, pos, neg_ℤ, ◌+ℤ◌, ◌-ℤ◌, ◌*ℤ◌}
use Rattle.std.specs.Int.Signed.{quot_z, rem_z}
use Rattle.reply.specs.Choice.{pick}
use Rattle.coordijk.specs.Signed.{Signed, signed}

-- `j % 2`
abbrev pub offset_of : ℤ → ℤ
offset_of j = rem_z j (pos 2)

-- `i32::midpoint(j, offset)`
abbrev pub axis_of : ℤ → ℤ
axis_of j = quot_z (j +ℤ offset_of j) (pos 2)

-- `(2 * j + 1) / 2`
abbrev pub half_of : ℤ → ℤ
half_of j = quot_z (pos 2 *ℤ j +ℤ pos 1) (pos 2)

abbrev pub source_folded : Bool → Bool → ℤ → ℤ → Signed
source_folded left down i j =
    let diff = i -ℤ axis_of j in
    let across = pick left (i -ℤ (pos 2 *ℤ diff +ℤ offset_of j)) i in
    signed (pick down (across -ℤ half_of j) across) (pick down (neg_ℤ j) j) (pos 0)
