-- The report is the one told of this table.
use Rattle.kernel.proofs.reply.Goals as goal

pub returns : goal.returns
returns c = rw c.report.ensures
