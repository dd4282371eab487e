-- A thread that isn't ready stands on none of the ready lists, so leaving the others is leaving all.
use mathlib.Core.Path.{◌≡◌, sym, ◌∙◌}
use native.Mathlib.Omega.{arith}
use borrow.Author.Tests.{ltb-false}
use Rattle.sequences.specs.Lists.{count_all}
use Rattle.sequences.proofs.Counts.{among_any-count}
use Rattle.model.specs.Words.{leave}
use Rattle.model.specs.Before.{view}
use Rattle.placed.proofs.Leaving.{leave-from_other}
use Rattle.table.proofs.Views.{does, same_word}
use Rattle.table.proofs.leaving.leave.Goals as goal

pub leave_ready-requires : goal.leave_ready-requires
leave_ready-requires c = record { given = c.requires; rows_value = sym c.is_ready.ensures ∙ c.if-is_ready.true }

pub leave_other-requires : goal.leave_other-requires
unfolding view
leave_other-requires c = record { orderly_table = c.requires.whole.order.table; waits_bound = omega (arith, c.requires.whole.placed.once c.args.i) }

pub returns-else-is_ready : goal.returns-else-is_ready
unfolding view
returns-else-is_ready c =
    let i = c.args.i in
    let ls = (view c.args.t c.args.rows.now).ready in
    let none : count_all i ls ≡ 0 =
    omega (arith, ltb-false 0 (count_all i ls) (sym (among_any-count i ls) ∙ sym c.is_ready.ensures ∙ c.if-is_ready.false))
    in
    same_word (leave i) (does c.args.rows.now c.requires.whole.order c.leave_other.ensures) (sym (leave-from_other c.requires.whole.placed i none))
