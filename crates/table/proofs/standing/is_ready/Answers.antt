-- What is found in the list of the current priority tells of all ready lists.
use Rattle.table.proofs.Ready.{priority_below, found_ready}
use Rattle.table.proofs.standing.is_ready.Goals as goal

pub find-k-requires-clause-p_bound : goal.find-k-requires-clause-p_bound
find-k-requires-clause-p_bound c = priority_below c.thread-x.ensures c.requires

pub bounds-lengths-p : goal.bounds-lengths-p
bounds-lengths-p c = priority_below c.thread-x.ensures c.requires

pub returns : goal.returns
returns c =
    rw c.find-k.ensures (found_ready c.thread-x.ensures c.requires)
