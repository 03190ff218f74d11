-- Back again: the centre of a hexagon in the plane.
use Rattle.std.specs.Prelude.{pos, ◌-ℤ◌}
use Rattle.std.specs.Float.{binary64}
use Rattle.std.specs.Float.Ieee.{sub, mul, div, of_int}
use Rattle.reply.specs.Replies.{Reply, reply}
use Rattle.double.specs.Double.{two, sin60}
use Rattle.coordijk.specs.declared.CoordIJK.{CoordIJK}
use Rattle.coordijk.specs.Coordinates.{verdict_of}
use Rattle.vec2d.specs.declared.Vec2d.{Vec2d}
use Rattle.vec2d.specs.Points.{point, point_values}

-- x = (i-k) - (j-k)/2, y = (j-k)·0.8660254037844386
unfoldable pub centre_of : CoordIJK → Vec2d
centre_of c =
    let i = of_int binary64 (pos c.i -ℤ pos c.k) in
    let j = of_int binary64 (pos c.j -ℤ pos c.k) in
    point (sub binary64 i (div binary64 j two)) (mul binary64 j sin60)

-- the entry, in the paper's numbers
abbrev pub centre_reply : CoordIJK → Reply
centre_reply c = reply 2 (verdict_of c) (point_values (centre_of c))
