-- The refusal that the margin gives is the foremost that applies: it has one reason. Assumes nothing.
use Rattle.std.proofs.Common.{arith}
use Rattle.reply.specs.Order.{Foremost, Ascending}
use Rattle.reply.proofs.Foremost.{foremost}
use Rattle.vec2d.specs.declared.Leftovers.{Leftovers}
use Rattle.margin.specs.Margins.{margin_reasons, margin_verdict}

-- A margin tests 5 alone.
pub margin_ascending : (l : Leftovers) → Ascending 0 (margin_reasons l)
margin_ascending l = (omega arith, tt)

-- So it is refused with 5 where a leftover is out of range, and nowhere else.
pub margin_foremost : (l : Leftovers) → Foremost (margin_reasons l) (margin_verdict l)
margin_foremost l = foremost 0 (margin_reasons l) (margin_ascending l)
