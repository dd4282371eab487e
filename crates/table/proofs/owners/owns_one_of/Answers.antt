-- `owners::owns_one_of` meets its contract: the mutexes are asked one by one.
use mathlib.Core.Path.{◌≡◌}
use mathlib.Core.Bool.{◌&&◌}
use borrow.Author.Rules.{rules}
use borrow.Author.Tests.{tests}
use lib.Dec.{eqb, ltb}
use lib.ListN.{length}
use Rattle.model.specs.declared.tables.Mutex.{Mutex}
use Rattle.model.specs.State.{absent_mutex}
use Rattle.table.specs.Owners.{owns_one_of}
use Rattle.table.proofs.Passing.{some_of}
use Rattle.table.proofs.owners.owns_one_of.Goals as goal

pub returns : goal.returns
unfolding owns_one_of
returns c =
    let many : length c.args.mutexes ≡ 4 = search rules in
    some_of (λ (x : Mutex). ltb 0 x.depth && eqb x.owner c.args.i) absent_mutex c.args.mutexes many c.any.ensures.ran (cc) (λ x b q k. search (rules, tests))
