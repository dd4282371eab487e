-- The timer's record with nothing left is stored.
use mathlib.Core.Path.{refl}
use Prim.Native.Nat.{◌<◌}
use borrow.Author.Tests.{leb-false}
use Rattle.model.specs.declared.tables.Timer.{Timer}
use Rattle.model.specs.Parts.{with_time}
use Rattle.model.specs.Calls.{answers}
use Rattle.model.specs.Effects.{stop_timer_effect}
use Rattle.table.proofs.Rewriting.{rewritten_timer}
use Rattle.kernel.proofs.Facts.{whole, not-due}
use Rattle.kernel.proofs.timers.stop_timer.Goals as goal
use Rattle.kernel.proofs.timers.stop_timer.Goals.{Start}

below : (s : Start) → s.args.q.id < 8
unfolding answers
below s = leb-false 8 s.args.q.id (not-due s.requires.1 0 refl)

pub bounds-t-o : goal.bounds-t-o
bounds-t-o c = below (goal.at.bounds-t-o c).Start

pub with_timer-requires : goal.with_timer-requires
with_timer-requires c = record { orderly_table = (whole c.requires.1).order.table; o_bound = below (goal.at.with_timer-requires c).Start }

pub returns : goal.returns
unfolding stop_timer_effect
returns c =
    let a = c.args in
    rewritten_timer a.t c.with_timer.result a.q.id _ (λ (x : Timer). with_time 0 x.count x) refl c.with_timer.ensures
