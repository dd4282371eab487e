-- `objects::mutexes_fit` meets its contract: mutex by mutex.
use Prim.Native.Nat.{◌+◌}
use native.Mathlib.Omega.{arith}
use borrow.Author.Rules.{rules}
use borrow.Author.Tests.{tests}
use lib.ListN.{get_or}
use Rattle.std.proofs.lemmas.Iterator.{serves_from_Range}
use Rattle.sequences.specs.Lists.{among}
use Rattle.sequences.proofs.Tests.{every_below-at}
use Rattle.model.specs.State.{absent_mutex}
use Rattle.model.specs.Before.{ids_of, list_at, thread_at}
use Rattle.table.proofs.Passing.{all_below}
use Rattle.soundness.specs.Lists.{wait_list_fits}
use Rattle.soundness.specs.Records.{mutex_fits}
use Rattle.soundness.proofs.Fitting.{fitting}
use Rattle.soundness.proofs.objects.mutexes_fit.Goals as goal

pub all-requires-clause-callable : goal.all-requires-clause-callable
all-requires-clause-callable c =
    serves_from_Range (λ x q k. search rules)
    (λ o low high.
    let l = list_at c.args.waits (10 + o) in
    let row = (fitting l.length l.ids (every_below-at (λ j. wait_list_fits (list_at c.args.waits j)) 18 (10 + o) (omega arith) c.requires)).row in
    search (arith, rules))

pub returns : goal.returns
returns c =
    let a = c.args in
    all_below
    (λ o. mutex_fits (get_or a.mutexes o absent_mutex) (thread_at a.threads (get_or a.mutexes o absent_mutex).owner) (list_at a.waits (10 + o)).length (among (get_or a.mutexes o absent_mutex).owner (ids_of (list_at a.waits (10 + o)))))
    4 c.all.ensures.ran (cc) (λ o b q k. search (rules, tests))
