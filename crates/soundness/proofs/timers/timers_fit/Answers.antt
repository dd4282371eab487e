-- `timers::timers_fit` meets its contract: timer by timer.
use mathlib.Core.Path.{◌≡◌}
use borrow.Author.Rules.{rules}
use borrow.Author.Tests.{tests}
use lib.ListN.{length}
use Rattle.model.specs.declared.tables.Timer.{Timer}
use Rattle.model.specs.State.{unused_timer}
use Rattle.table.specs.Objects.{names_one_of}
use Rattle.table.proofs.Passing.{every_of}
use Rattle.soundness.specs.Records.{timer_fits}
use Rattle.soundness.proofs.timers.timers_fit.Goals as goal

pub returns : goal.returns
returns c =
    let a = c.args in
    let many : length a.timers ≡ 8 = search rules in
    every_of (λ (t : Timer). timer_fits t (names_one_of a.semaphores a.flags t.kind t.object)) unused_timer a.timers many c.all.ensures.ran (cc)
    (λ x b q k. search (rules, tests))
