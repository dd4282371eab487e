-- One row stored anew; its list is the one that changes.
use Rattle.sequences.specs.Lists.{snoc}
use Rattle.rows.proofs.Rows.{stored}
use Rattle.rows.proofs.eight.push.Goals as goal

pub returns : goal.returns
returns c =
    let a = c.args in
    let p = c.requires in
    stored p.rows a.p p.p_bound.0 (snoc a.x) (rw c.from.ensures at c.push.ensures)
