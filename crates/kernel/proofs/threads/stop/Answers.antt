-- Who has left is off all lists, so the stopped list has room.
use mathlib.Core.Path.{refl}
use Prim.Native.Nat.{◌<◌}
use native.Mathlib.Omega.{arith}
use Rattle.model.specs.Calls.{answers}
use Rattle.model.specs.Effects.{stop_effect}
use Rattle.model.specs.Before.{view}
use Rattle.placed.proofs.Standing.{leave_gone, leave-placed}
use Rattle.table.specs.Orderly.{Given}
use Rattle.table.proofs.Rooms.{off-after, list-room}
use Rattle.table.proofs.Stored.{sound-given}
use Rattle.table.proofs.Views.{does, and_then}
use Rattle.kernel.proofs.Facts.{thread-named}
use Rattle.kernel.proofs.threads.stop.Goals as goal
use Rattle.kernel.proofs.threads.stop.Goals.{Start}

below : (s : Start) → s.args.q.id < 16
unfolding answers
below s = thread-named s.requires refl

given : (s : Start) → Given s.args.t s.args.rows.now s.args.q.id
given s = sound-given s.requires.sound (below s)

pub overflow_cast-i : goal.overflow_cast-i
overflow_cast-i c = omega (arith, below (goal.at.overflow_cast-i c).Start)

pub leave-u-requires : goal.leave-u-requires
leave-u-requires c = given (goal.at.leave-u-requires c).Start

pub enter_tail-requires : goal.enter_tail-requires
enter_tail-requires c =
    let i = c.args.q.id in
    let v = view c.args.t c.args.rows.now in
    let w = off-after c.leave-u.ensures (below (goal.at.enter_tail-requires c).Start) (leave-placed i v (given (goal.at.enter_tail-requires c).Start).whole.placed) (leave_gone i v) in record { orderly_table = w.given.whole.order.table; j_bound = (omega arith, list-room w 1 (omega arith)) }

pub returns : goal.returns
unfolding stop_effect
returns c =
    let d = c.leave-u.ensures in
    and_then d (does c.leave-u.new.rows d.order c.enter_tail.ensures)
