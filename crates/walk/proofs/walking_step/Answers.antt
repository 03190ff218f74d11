-- `walking_step` meets its contract: by what crossing answers, and whether it was a step. Assumes nothing.
use Rattle.walk.proofs.Meeting.{over_step, rest_step, refused_step}
use Rattle.walk.proofs.walking_step.Goals as goal

pub returns-then-is_beyond : goal.returns-then-is_beyond
returns-then-is_beyond c =
    over_step c.args.w _ c.in-Ok.is c.cross-crossed.ensures c.is_beyond.ensures c.if-is_beyond.true

pub returns-else-is_beyond : goal.returns-else-is_beyond
returns-else-is_beyond c =
    rest_step c.args.w _ c.in-Ok.is c.cross-crossed.ensures c.is_beyond.ensures c.if-is_beyond.false

pub returns-in-Err : goal.returns-in-Err
returns-in-Err c =
    refused_step c.args.w c.in-Err.is c.cross-crossed.ensures
