-- Plane points: which are numbers, a point as a reply's values, and a point in a list of doubles.
use Rattle.reply.specs.declared.Refusal.{Refusal}
use Rattle.std.specs.Prelude.{Bool, ◌&&◌, List, [], ◌∷◌, ℕ, ◌+◌, Float, get_or, Result}
use Rattle.std.specs.Float.{binary64, nan}
use Rattle.std.specs.Float.Ieee.{to_bits}
use Rattle.reply.specs.Replies.{Reply, said}
use Rattle.double.specs.Double.{finite}
use Rattle.vec2d.specs.declared.Vec2d.{Vec2d}

abbrev pub point : Float → Float → Vec2d
point x y = record { x = x; y = y }

-- the point whose x and y stand in a list of doubles from a number on
abbrev pub point_at : List Float → ℕ → Vec2d
point_at ds n = point (get_or ds n nan) (get_or ds (n + 1) nan)

-- no NaN and no infinity in the point
unfoldable pub is_point : Vec2d → Bool
is_point v = finite v.x && finite v.y

-- x and y, each by its 64 bits
abbrev pub point_values : Vec2d → List ℕ
point_values v = to_bits binary64 v.x ∷ to_bits binary64 v.y ∷ []

-- an answer that is a point, in the paper's numbers
abbrev pub said_pointed : Result Vec2d Refusal → Reply
said_pointed = said 2 point_values
