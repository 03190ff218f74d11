-- The reply of a meeting, from what its formula gives. Assumes nothing.
use mathlib.Core.Path.{◌≡◌, refl}
use mathlib.Core.Bool.{Bool, true, false, ◌&&◌}
use Rattle.std.specs.Prelude.{Ok, Err}
use Rattle.reply.specs.Choice.{pick}
use Rattle.reply.specs.declared.Refusal.TheVariants.{NoCrossing}
use Rattle.reply.specs.Replies.{reply, fine}
use Rattle.vec2d.specs.declared.Crossing.{Crossing}
use Rattle.vec2d.specs.declared.Line.{Line}
use Rattle.vec2d.specs.Points.{point_values, said_pointed}
use Rattle.vec2d.specs.Meeting.{is_line, crossing_of, no_crossing, met_of, meet_reply}

-- Where both lines are numbers, what the formula gives is the reply.
pub met_said : (a b : Line) → (is_line a && is_line b) ≡ true → said_pointed (met_of (crossing_of a b)) ≡ meet_reply a b
unfolding met_of
met_said a b e = rw e (go (no_crossing (crossing_of a b)) (crossing_of a b))
  where
    go : (t : Bool) (c : Crossing) → said_pointed (pick t (Err NoCrossing) (Ok c.at)) ≡ reply 2 (pick t (Err NoCrossing) fine) (point_values c.at)
    go true c = refl
    go false c = refl
