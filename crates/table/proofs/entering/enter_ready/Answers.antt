-- The row of the current priority stored with the id behind all others, and its length with it.
use native.Mathlib.Omega.{arith}
use Rattle.table.proofs.Ready.{entered_ready}
use Rattle.table.proofs.entering.enter_ready.Goals as goal

pub push-grown-requires : goal.push-grown-requires
push-grown-requires c = record { rows = c.requires.orderly.ready; p_bound = (rw c.thread-x.ensures c.requires.i_bound.1, rw c.thread-x.ensures c.requires.i_bound.2) }

pub bounds-lengths-p : goal.bounds-lengths-p
bounds-lengths-p c = rw c.thread-x.ensures c.requires.i_bound.1

pub overflow_add-lengths : goal.overflow_add-lengths
overflow_add-lengths c =
    rw c.thread-x.ensures (omega (arith, c.requires.i_bound.2))

pub bounds-lengths-p-2 : goal.bounds-lengths-p-2
bounds-lengths-p-2 c = rw c.thread-x.ensures c.requires.i_bound.1

pub returns : goal.returns
returns c = entered_ready c.thread-x.ensures c.requires.orderly c.push-grown.ensures
