-- `call_globe` meets its contract: what the C face gives for the place of its fields. Assumes nothing.
use Rattle.ask_call.proofs.call_globe.Goals as goal

pub returns : goal.returns
returns c = rw (← c.new-centre.ensures) c.border.ensures
