-- `lists::ready_lists_fit` meets its contract: list by list.
use mathlib.Core.List.{[]}
use borrow.Author.Rules.{rules}
use borrow.Author.Tests.{tests}
use lib.ListN.{get_or}
use Rattle.table.proofs.Passing.{all_below}
use Rattle.soundness.specs.Lists.{list_fits}
use Rattle.soundness.proofs.lists.ready_lists_fit.Goals as goal

pub returns : goal.returns
returns c = all_below (λ p. list_fits (get_or c.args.lengths p 0) (get_or c.args.rows p [])) 8 c.all.ensures.ran (cc) (λ x b q k. search (rules, tests))
