-- One row stored anew; its list is the one that changes.
use Rattle.sequences.specs.Lists.{remove_at}
use Rattle.rows.proofs.Rows.{stored}
use Rattle.rows.proofs.eight.remove.Goals as goal

pub returns : goal.returns
returns c =
    let a = c.args in
    let p = c.requires in
    stored p.rows a.p p.p_bound.0 (remove_at a.k) (rw c.from.ensures at c.remove.ensures)
