-- One record stored.
use Rattle.table.proofs.Views.{stored_semaphore}
use Rattle.table.proofs.storing.with_semaphore.Goals as goal

pub returns : goal.returns
returns c = stored_semaphore c.args.t c.requires.orderly_table c.args.o c.args.x
