-- A row's first places are its list.
use Rattle.rows.proofs.Rows.{list_at}
use Rattle.rows.proofs.eight.find.Goals as goal

pub returns : goal.returns
returns c =
    rw (list_at c.requires.rows c.args.p c.requires.p_bound, ← c.from.ensures) c.find.ensures
