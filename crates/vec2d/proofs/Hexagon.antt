-- What rounding says of the hexagon is what document 01 says: the leftovers stand after it and change nothing. Assumes nothing.
use mathlib.Core.Path.{◌≡◌, refl}
use lib.ListN.{take}
use Rattle.std.specs.Prelude.{Ok, Err}
use Rattle.reply.specs.Replies.{reply, Verdict}
use Rattle.coordijk.specs.Coordinates.{coord_values}
use Rattle.vec2d.specs.declared.Vec2d.{Vec2d}
use Rattle.vec2d.specs.Rounding.{round_verdict, nearest_of, found_of, found_values, round_reply, hexagon_reply}

-- The whole numbers of a rounding's reply are the reply without leftovers, where it answers and where it refuses.
pub same_hexagon : (v : Vec2d) → record { number = (round_reply v).number; values = take 3 (round_reply v).values } ≡ hexagon_reply v
same_hexagon v = go (round_verdict v)
  where
    go : (d : Verdict) → let r = reply 5 d (found_values (found_of v)) in record { number = r.number; values = take 3 r.values } ≡ reply 3 d (coord_values (nearest_of v))
    go (Ok _) = refl
    go (Err r) = refl
