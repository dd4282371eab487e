-- One store behind the last.
use Rattle.rows.proofs.Rows.{pushed}
use Rattle.rows.proofs.row.push.Goals as goal

pub returns : goal.returns
returns c = pushed c.requires.row c.args.x c.requires.n_bound
