-- Two lines that are lent as eight doubles, and where they meet.
use Rattle.std.specs.Prelude.{List, eqb, Float, length}
use Rattle.reply.specs.Choice.{pick}
use Rattle.reply.specs.declared.Refusal.TheVariants.{BadRows}
use Rattle.reply.specs.Replies.{Reply, refusal}
use Rattle.vec2d.specs.Meeting.{line_at, meet_reply}

-- where two lines meet that are given as eight doubles; another number of doubles gets 2
abbrev pub lines_reply : List Float → Reply
lines_reply ds = pick (eqb (length ds) 8) (meet_reply (line_at ds 0) (line_at ds 4)) (refusal 2 BadRows)
