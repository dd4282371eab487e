-- One record stored.
use Rattle.table.proofs.Views.{stored_thread}
use Rattle.table.proofs.threads.with_thread.Goals as goal

pub returns : goal.returns
returns c = stored_thread c.args.t c.requires.orderly_table c.args.i c.args.x
