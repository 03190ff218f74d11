-- Near-equality: two points are equal if both parts differ by at most 2^-23.
use Rattle.reply.specs.declared.Refusal.{Refusal}
use Rattle.std.specs.Prelude.{Bool, not, ◌&&◌, List, [], ◌∷◌, Float, Result}
use Rattle.std.specs.Float.{binary64}
use Rattle.std.specs.Float.Ieee.{sub, le}
use Rattle.reply.specs.Choice.{pick}
use Rattle.reply.specs.declared.Refusal.TheVariants.{BadNumber}
use Rattle.reply.specs.Replies.{Reason, when, first, Reply, reply, Verdict, said, yes_or_no}
use Rattle.double.specs.Double.{size_of, tolerance}
use Rattle.vec2d.specs.declared.Vec2d.{Vec2d}
use Rattle.vec2d.specs.Points.{is_point}

abbrev pub within : Float → Float → Bool
within a b = le (size_of (sub binary64 a b)) tolerance

unfoldable pub close : Vec2d → Vec2d → Bool
close a b = within a.x b.x && within a.y b.y

abbrev pub alike_reasons : Vec2d → Vec2d → List Reason
alike_reasons a b = when (not (is_point a && is_point b)) BadNumber ∷ []

abbrev pub alike_verdict : Vec2d → Vec2d → Verdict
alike_verdict a b = first (alike_reasons a b)

-- the entry, in the paper's numbers: 1 for yes, 0 for no
abbrev pub said_alike : Result Bool Refusal → Reply
said_alike = said 1 yes_or_no

abbrev pub alike_reply : Vec2d → Vec2d → Reply
alike_reply a b = reply 1 (alike_verdict a b) (pick (close a b) 1 0 ∷ [])
