-- No change, no move; else the model's change and then its move, by where the thread stands.
use mathlib.Core.Path.{sym, ◌∙◌}
use borrow.Author.Tests.{eq-eqb, ne_eqb}
use Rattle.model.specs.declared.tables.Table.{Table}
use Rattle.model.specs.Parts.{alter_thread, with_current}
use Rattle.model.specs.Words.{re_enter, take_priority}
use Rattle.model.specs.Before.{Rows, view}
use Rattle.table.specs.Orderly.{Does}
use Rattle.table.proofs.Views.{same_word}
use Rattle.table.proofs.priorities.take_priority.Goals as goal
use Rattle.table.proofs.priorities.take_priority.Goals.{Else-x-p}

-- another priority: the change, and the move
moved : (c : Else-x-p) → (r : Table) (after : Rows)
    → Does c.args.t c.args.rows.now (λ x. re_enter c.args.i (alter_thread c.args.i (with_current c.args.p) x)) r after
    → Does c.args.t c.args.rows.now (take_priority c.args.i c.args.p) r after
unfolding take_priority view
moved c r after d =
    let e = c.thread-x.ensures in
    same_word (take_priority c.args.i c.args.p) d (rw (← e, ne_eqb _ _ c.if-x-p.false))

pub returns-then-x-p : goal.returns-then-x-p
unfolding take_priority view
returns-then-x-p c =
    let e = c.thread-x.ensures in
    record { order = c.requires.given.whole.order; view = rw (← e, eq-eqb _ _ c.if-x-p.true) }

pub take_ready-requires : goal.take_ready-requires
take_ready-requires c = record { given = c.requires.given; p_bound = (c.requires.p_bound, sym c.is_ready.ensures ∙ c.if-is_ready.true) }

pub take_elsewhere-requires : goal.take_elsewhere-requires
take_elsewhere-requires c = record { given = c.requires.given; p_bound = (c.requires.p_bound, sym c.is_ready.ensures ∙ c.if-is_ready.false) }

pub returns-then-is_ready : goal.returns-then-is_ready
returns-then-is_ready c = moved (goal.at.returns-then-is_ready c).Else-x-p _ _ c.take_ready.ensures

pub returns-else-is_ready : goal.returns-else-is_ready
returns-else-is_ready c = moved (goal.at.returns-else-is_ready c).Else-x-p _ _ c.take_elsewhere.ensures
