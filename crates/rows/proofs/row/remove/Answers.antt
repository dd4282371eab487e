-- The part past k copied to k, and a zero at the last place.
use Rattle.rows.proofs.Rows.{removed}
use Rattle.rows.proofs.row.remove.Goals as goal

pub returns : goal.returns
returns c =
    let a = c.args in
    let p = c.requires in
    rw c.copy_within.ensures.after (removed p.row a.k p.k_lt_n)
