-- Where two lines meet, by the formula of `Vec2d::intersection`.
use Rattle.reply.specs.declared.Refusal.{Refusal}
use Rattle.std.specs.Prelude.{Bool, not, ◌&&◌, ◌||◌, List, [], ◌∷◌, ℕ, ◌+◌, Float, Ok, Err, Result}
use Rattle.std.specs.Float.{binary64}
use Rattle.std.specs.Float.Ieee.{sub, mul, div, neg, eq}
use Rattle.reply.specs.Choice.{pick}
use Rattle.reply.specs.declared.Refusal.TheVariants.{BadNumber, NoCrossing}
use Rattle.reply.specs.Replies.{Reason, when, first, Reply, reply, Verdict}
use Rattle.double.specs.Double.{nought, mul_add_of}
use Rattle.vec2d.specs.declared.Vec2d.{Vec2d}
use Rattle.vec2d.specs.declared.Line.{Line}
use Rattle.vec2d.specs.declared.Crossing.{Crossing}
use Rattle.vec2d.specs.Points.{point, point_at, is_point, point_values}

-- the line of four doubles that stand in a list from a number on: x and y of its from and its to
abbrev pub line_at : List Float → ℕ → Line
line_at ds n = record { from = point_at ds n; to = point_at ds (n + 2) }

unfoldable pub is_line : Line → Bool
is_line l = is_point l.from && is_point l.to

-- a line's direction
unfoldable pub along : Line → Vec2d
along l = point (sub binary64 l.to.x l.from.x) (sub binary64 l.to.y l.from.y)

-- of two lines from p and q in the directions s1 and s2: the divisor, how far along the first one the second one is met, and where
unfoldable pub divisor_of : Vec2d → Vec2d → Float
divisor_of s1 s2 = mul_add_of (neg s2.x) s1.y (mul binary64 s1.x s2.y)

unfoldable pub share_of : Vec2d → Vec2d → Vec2d → Float → Float
share_of p q s2 divisor =
    div binary64 (mul_add_of s2.x (sub binary64 p.y q.y) (mul binary64 (neg s2.y) (sub binary64 p.x q.x))) divisor

unfoldable pub reached_of : Vec2d → Vec2d → Float → Vec2d
reached_of p s1 t = point (mul_add_of t s1.x p.x) (mul_add_of t s1.y p.y)

unfoldable pub crossing_of : Line → Line → Crossing
crossing_of a b =
    let s1 = along a in
    let s2 = along b in
    let divisor = divisor_of s1 s2 in
    record { divisor = divisor; at = reached_of a.from s1 (share_of a.from b.from s2 divisor) }

-- NoCrossing: the divisor of the meeting formula is zero, or a result is not finite
abbrev pub no_crossing : Crossing → Bool
no_crossing c = eq c.divisor nought || not (is_point c.at)

unfoldable pub met_of : Crossing → Result Vec2d Refusal
met_of c = pick (no_crossing c) (Err NoCrossing) (Ok c.at)

abbrev pub meet_reasons : Line → Line → List Reason
meet_reasons a b = when (not (is_line a && is_line b)) BadNumber ∷ when (no_crossing (crossing_of a b)) NoCrossing ∷ []

abbrev pub meet_verdict : Line → Line → Verdict
meet_verdict a b = first (meet_reasons a b)

-- the entry, in the paper's numbers
abbrev pub meet_reply : Line → Line → Reply
meet_reply a b = reply 2 (meet_verdict a b) (point_values (crossing_of a b).at)
