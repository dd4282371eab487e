-- One record stored.
use Rattle.table.proofs.Views.{stored_mutex}
use Rattle.table.proofs.storing.with_mutex.Goals as goal

pub returns : goal.returns
returns c = stored_mutex c.args.t c.requires.orderly_table c.args.o c.args.x
