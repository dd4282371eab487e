-- `objects::all_flags_fit` meets its contract: flag object by flag object.
use Prim.Native.Nat.{◌+◌}
use borrow.Author.Rules.{rules}
use borrow.Author.Tests.{tests}
use lib.ListN.{get_or}
use Rattle.model.specs.State.{absent_flags}
use Rattle.model.specs.Before.{list_at}
use Rattle.table.proofs.Passing.{all_below}
use Rattle.soundness.specs.Records.{flags_fit}
use Rattle.soundness.proofs.objects.all_flags_fit.Goals as goal

pub returns : goal.returns
returns c =
    all_below (λ o. flags_fit (get_or c.args.flags o absent_flags) (list_at c.args.waits (14 + o)).length) 4 c.all.ensures.ran (cc)
    (λ x b q k. search (rules, tests))
