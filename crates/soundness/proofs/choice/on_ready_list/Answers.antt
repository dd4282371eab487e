-- `choice::on_ready_list` meets its contract: the lists are searched one by one.
use mathlib.Core.Path.{sym, ◌∙◌}
use mathlib.Core.List.{[]}
use Prim.Native.Nat.{ℕ}
use borrow.Author.Rules.{rules}
use borrow.Author.Tests.{tests}
use lib.Dec.{eqb, ltb}
use lib.ListN.{get_or}
use Rattle.sequences.specs.Lists.{among, first_at, take_each}
use Rattle.sequences.proofs.Counts.{among-count, first_counts}
use Rattle.sequences.proofs.Tests.{some_below-same}
use Rattle.rows.proofs.Rows.{lists-many, length_at}
use Rattle.table.proofs.Passing.{any_below, among_any_by_place}
use Rattle.soundness.proofs.choice.on_ready_list.Goals as goal

pub returns : goal.returns
returns c =
    let a = c.args in
    let ls = take_each a.lengths a.rows in
    let found = λ (p : ℕ). ltb (first_at (λ y. eqb y a.i) (get_or ls p [])) (get_or a.lengths p 0) in
    any_below found 8 c.any.ensures.ran (cc) (λ x b q k. search (rules, tests))
    ∙ some_below-same found (λ p. among a.i (get_or ls p [])) 8
    (λ p h. rw (← length_at c.requires p h) (first_counts a.i (get_or ls p []) ∙ sym (among-count a.i (get_or ls p []))))
    ∙ rw (← lists-many c.requires) (sym (among_any_by_place a.i ls))
