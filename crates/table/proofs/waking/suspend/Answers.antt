-- What a wait writes moves nobody, so the thread can leave as it stood.
use mathlib.Core.Path.{refl}
use Rattle.model.specs.Parts.{with_wait}
use Rattle.model.specs.Words.{suspend}
use Rattle.model.specs.Before.{view}
use Rattle.placed.proofs.Standing.{alter-placed}
use Rattle.table.proofs.Rooms.{given-after}
use Rattle.table.proofs.Views.{does, and_then}
use Rattle.table.proofs.waking.suspend.Goals as goal

pub leave-requires : goal.leave-requires
leave-requires c =
    let m = does c.args.rows.now c.requires.whole.order c.with_wait-u.ensures in
    let g = with_wait c.args.limit 0 c.args.mask c.args.mode in
    given-after m c.requires.thread (alter-placed c.args.i g (view c.args.t c.args.rows.now) (λ x. refl) c.requires.whole.placed)

pub returns : goal.returns
unfolding suspend
returns c =
    and_then (does c.args.rows.now c.requires.whole.order c.with_wait-u.ensures) c.leave.ensures
