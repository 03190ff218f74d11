-- `decimal_from` meets its contract: both numbers are doubles, and only their quotient is rounded. Assumes nothing.
use Rattle.ask_read.proofs.Decimals.{power_number, taken}
use Rattle.ask_read.proofs.decimal_from.Goals as goal

pub int_to_float-result-2 : goal.int_to_float-result-2
int_to_float-result-2 c = power_number c.args.k c.pow-scale.result c.requires.1 c.pow-scale.ensures

pub returns : goal.returns
returns c = taken c.args.value c.args.k c.pow-scale.result c.requires.0 c.requires.1 c.pow-scale.ensures
