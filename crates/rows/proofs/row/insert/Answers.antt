-- The part from k on copied one place on, and x at k.
use Rattle.rows.proofs.Rows.{inserted}
use Rattle.rows.proofs.row.insert.Goals as goal

pub returns : goal.returns
returns c =
    let a = c.args in
    let p = c.requires in
    rw c.copy_within.ensures.after (inserted p.row a.k a.x p.n_bound.0 p.n_bound.1)
