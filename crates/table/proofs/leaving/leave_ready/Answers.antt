-- The thread is found in the list of its current priority; that list without it is all that leaving changes.
use Prim.Native.Nat.{◌<◌}
use native.Mathlib.Omega.{arith}
use Rattle.table.proofs.Ready.{priority_below, place_found, left-ready}
use Rattle.table.proofs.leaving.leave_ready.Goals as goal
use Rattle.table.proofs.leaving.leave_ready.Goals.{After-remove-shrunk}

below : (c : After-remove-shrunk) → c.thread-x.result.current < 8
below c = priority_below c.thread-x.ensures c.requires.given

pub find-k-requires : goal.find-k-requires
find-k-requires c = record { rows = c.requires.given.whole.order.ready; p_bound = priority_below c.thread-x.ensures c.requires.given }

pub remove-shrunk-requires : goal.remove-shrunk-requires
remove-shrunk-requires c =
    let x = c.thread-x.ensures in record { rows = c.requires.given.whole.order.ready; p_bound = (priority_below x c.requires.given, place_found x c.requires.given c.requires.rows_value c.find-k.ensures) }

pub bounds-lengths-p : goal.bounds-lengths-p
bounds-lengths-p c = below c

pub overflow_sub-lengths : goal.overflow_sub-lengths
overflow_sub-lengths c =
    omega (arith, place_found c.thread-x.ensures c.requires.given c.requires.rows_value c.find-k.ensures)

pub bounds-lengths-p-2 : goal.bounds-lengths-p-2
bounds-lengths-p-2 c = below c

pub returns : goal.returns
returns c =
    left-ready c.thread-x.ensures c.requires.given c.requires.rows_value c.find-k.ensures c.remove-shrunk.ensures
