-- Who has left is off all lists, so the ready list of its current priority has room.
use Rattle.model.specs.Words.{become_ready}
use Rattle.table.proofs.Rooms.{left-off, priority_in_range, row_room}
use Rattle.table.proofs.Views.{and_then}
use Rattle.table.proofs.waking.become_ready.Goals as goal

pub enter_ready-requires : goal.enter_ready-requires
enter_ready-requires c =
    let d = c.leave-u.ensures in
    let w = left-off c.requires d in record { orderly = d.order; i_bound = (c.requires.thread, priority_in_range w, row_room w _ (priority_in_range w)) }

pub returns : goal.returns
unfolding become_ready
returns c = and_then c.leave-u.ensures c.enter_ready.ensures
