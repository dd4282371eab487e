-- Who was suspended is off all lists, so the sleep list has room.
use native.Mathlib.Omega.{arith}
use Rattle.model.specs.Words.{start_to_sleep}
use Rattle.table.proofs.Rooms.{suspended_off, list-room}
use Rattle.table.proofs.Views.{does, and_then}
use Rattle.table.proofs.waking.start_to_sleep.Goals as goal

pub enter_tail-requires : goal.enter_tail-requires
enter_tail-requires c =
    let w = suspended_off c.requires c.args.span 0 0 c.suspend-u.ensures in record { orderly_table = w.given.whole.order.table; j_bound = (omega arith, list-room w 0 (omega arith)) }

pub returns : goal.returns
unfolding start_to_sleep
returns c =
    let w = suspended_off c.requires c.args.span 0 0 c.suspend-u.ensures in
    and_then c.suspend-u.ensures (does c.suspend-u.new.rows w.given.whole.order c.enter_tail.ensures)
