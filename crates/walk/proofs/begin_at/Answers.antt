-- `begin_at` meets its contract: by what settling answers. Assumes nothing.
use Rattle.walk.proofs.Meeting.{begun_done, begun_refused}
use Rattle.walk.proofs.begin_at.Goals as goal

pub returns-in-Ok : goal.returns-in-Ok
returns-in-Ok c = begun_done c.args.q c.in-Ok.is c.settle-settled.ensures

pub returns-in-Err : goal.returns-in-Err
returns-in-Err c = begun_refused c.args.q c.in-Err.is c.settle-settled.ensures
