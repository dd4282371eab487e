-- The lists are searched in their order.
use mathlib.Core.Path.{◌≡◌, sym, ◌∙◌}
use borrow.Author.Rules.{rules}
use borrow.Author.Tests.{tests}
use lib.ListN.{length}
use Rattle.std.proofs.lemmas.Iterator.{YieldsList-from_slice}
use Rattle.std.proofs.lemmas.Iterator.Adapters.{serves_from_places}
use Rattle.sequences.specs.Lists.{among}
use Rattle.rows.specs.Row.{Row}
use Rattle.model.specs.declared.tables.IdList.{IdList}
use Rattle.model.specs.Before.{ids_of, no_ids}
use Rattle.table.proofs.Passing.{element_at, first_of, first-mapped}
use Rattle.table.proofs.standing.first_with.Goals as goal

pub position-requires-clause-callable : goal.position-requires-clause-callable
position-requires-clause-callable c =
    let many : length c.args.waits ≡ 18 = search rules in
    serves_from_places (YieldsList-from_slice c.args.waits cc) (λ x q k. search rules)
    (λ x k h e. let row = element_at (λ (l : IdList). Row 16 l.ids l.length) no_ids c.args.waits (rw many c.requires) x.now k h e in search rules)

pub returns : goal.returns
returns c =
    let many : length c.args.waits ≡ 18 = search rules in
    c.unwrap_or.ensures
    ∙ first_of (λ (l : IdList). among c.args.i (ids_of l)) c.args.waits many c.position.ensures.ran (cc) (λ x b q k. search (rules, tests))
    ∙ sym (first-mapped (among c.args.i) ids_of c.args.waits)
