-- `objects::semaphores_fit` meets its contract: semaphore by semaphore.
use Prim.Native.Nat.{◌+◌}
use borrow.Author.Rules.{rules}
use borrow.Author.Tests.{tests}
use lib.ListN.{get_or}
use Rattle.model.specs.State.{absent_semaphore}
use Rattle.model.specs.Before.{list_at}
use Rattle.table.proofs.Passing.{all_below}
use Rattle.soundness.specs.Records.{semaphore_fits}
use Rattle.soundness.proofs.objects.semaphores_fit.Goals as goal

pub returns : goal.returns
returns c =
    all_below (λ o. semaphore_fits (get_or c.args.semaphores o absent_semaphore) (list_at c.args.waits (2 + o)).length) 8 c.all.ensures.ran (cc)
    (λ x b q k. search (rules, tests))
