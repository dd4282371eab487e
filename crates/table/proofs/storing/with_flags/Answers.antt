-- One record stored.
use Rattle.table.proofs.Views.{stored_flags}
use Rattle.table.proofs.storing.with_flags.Goals as goal

pub returns : goal.returns
returns c = stored_flags c.args.t c.requires.orderly_table c.args.o c.args.x
