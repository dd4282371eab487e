-- `lists::wait_lists_fit` meets its contract: list by list.
use mathlib.Core.Path.{◌≡◌}
use borrow.Author.Rules.{rules}
use borrow.Author.Tests.{tests}
use lib.ListN.{length}
use Rattle.table.proofs.Passing.{every_of}
use Rattle.model.specs.Before.{no_ids}
use Rattle.soundness.specs.Lists.{wait_list_fits}
use Rattle.soundness.proofs.lists.wait_lists_fit.Goals as goal

pub returns : goal.returns
returns c =
    let many : length c.args.waits ≡ 18 = search rules in
    every_of wait_list_fits no_ids c.args.waits many c.all.ensures.ran (cc) (λ x b q k. search (rules, tests))
