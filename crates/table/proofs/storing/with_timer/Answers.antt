-- One record stored.
use Rattle.table.proofs.Views.{stored_timer}
use Rattle.table.proofs.storing.with_timer.Goals as goal

pub returns : goal.returns
returns c = stored_timer c.args.t c.requires.orderly_table c.args.o c.args.x
