-- The refusal that an entry gives is the foremost that applies: its reasons stand in the order. Assumes nothing.
use native.Mathlib.Omega.{arith}
use Rattle.reply.specs.Order.{Foremost, Ascending}
use Rattle.reply.proofs.Foremost.{foremost}
use Rattle.vec2d.specs.declared.Vec2d.{Vec2d}
use Rattle.vec2d.specs.declared.Line.{Line}
use Rattle.vec2d.specs.Rounding.{round_reasons, round_verdict}
use Rattle.vec2d.specs.Closeness.{alike_reasons, alike_verdict}
use Rattle.vec2d.specs.Meeting.{meet_reasons, meet_verdict}

-- Rounding tests 6 before 9.
pub round_ascending : (v : Vec2d) → Ascending 0 (round_reasons v)
round_ascending v = (omega arith, (omega arith, tt))

-- So the refusal of a rounding is the foremost that applies, and none is given where none applies.
pub round_foremost : (v : Vec2d) → Foremost (round_reasons v) (round_verdict v)
round_foremost v = foremost 0 (round_reasons v) (round_ascending v)

-- A meeting tests 6 before 13.
pub meet_ascending : (a b : Line) → Ascending 0 (meet_reasons a b)
meet_ascending a b = (omega arith, (omega arith, tt))

-- And so for a meeting.
pub meet_foremost : (a b : Line) → Foremost (meet_reasons a b) (meet_verdict a b)
meet_foremost a b = foremost 0 (meet_reasons a b) (meet_ascending a b)

-- Near-equality tests 6 alone.
pub alike_ascending : (a b : Vec2d) → Ascending 0 (alike_reasons a b)
alike_ascending a b = (omega arith, tt)

-- And so for near-equality.
pub alike_foremost : (a b : Vec2d) → Foremost (alike_reasons a b) (alike_verdict a b)
alike_foremost a b = foremost 0 (alike_reasons a b) (alike_ascending a b)
