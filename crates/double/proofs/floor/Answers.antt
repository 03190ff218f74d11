-- `double::floor` meets its contract. Assumes nothing.
use mathlib.Core.Bool.{true, false}
use Rattle.double.proofs.Whole.{floor_is}
use Rattle.double.proofs.floor.Goals as goal

pub returns-then-x-near : goal.returns-then-x-near
returns-then-x-near c = floor_is c.args.x c.requires true c.if-x-near.true

pub returns-else-x-near : goal.returns-else-x-near
returns-else-x-near c = floor_is c.args.x c.requires false c.if-x-near.false
