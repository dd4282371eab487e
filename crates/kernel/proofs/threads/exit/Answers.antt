-- The running thread leaves, and its record becomes that of one that isn't there.
use mathlib.Core.Path.{refl, ap}
use Prim.Native.Nat.{◌<◌}
use Rattle.model.specs.declared.tables.Thread.{Thread}
use Rattle.model.specs.Parts.{alter_thread}
use Rattle.model.specs.Words.{leave}
use Rattle.model.specs.Calls.{answers}
use Rattle.model.specs.Effects.{exit_effect}
use Rattle.model.specs.Before.{view}
use Rattle.table.proofs.Stored.{sound-given}
use Rattle.table.proofs.Views.{does, and_then, same_word}
use Rattle.kernel.proofs.Facts.{running_below, not-due}
use Rattle.kernel.proofs.threads.exit.Goals as goal
use Rattle.kernel.proofs.threads.exit.Goals.{Start}

below : (s : Start) → s.args.t.chosen < 16
unfolding answers
below s = running_below s.requires (not-due s.requires 1 refl)

pub leave-u-requires : goal.leave-u-requires
leave-u-requires c = sound-given c.requires.sound (below (goal.at.leave-u-requires c).Start)

pub with_thread-requires : goal.with_thread-requires
with_thread-requires c = record { orderly_table = c.leave-u.ensures.order.table; i_bound = below (goal.at.with_thread-requires c).Start }

pub returns : goal.returns
unfolding exit_effect view
returns c =
    let i = c.args.t.chosen in
    let v = view c.args.t c.args.rows.now in
    let d = c.leave-u.ensures in
    same_word (exit_effect c.args.q) (and_then d (does c.leave-u.new.rows d.order c.with_thread.ensures))
    (ap (λ (x : Thread). alter_thread i (λ _. x) (leave i v)) c.absent_thread-x.ensures)
