-- The number of the list that holds the thread tells whether it waits. Off that list it takes the new priority and is ranked anew; else it only takes it.
use mathlib.Core.Path.{◌≡◌, ◌∙◌}
use mathlib.Core.Bool.{true, ◌&&◌}
use Prim.Native.Nat.{ℕ, ◌<◌}
use borrow.Author.Tests.{ltb-true}
use lib.Dec.{leb, ltb}
use Rattle.sequences.proofs.Tests.{right}
use Rattle.model.specs.State.{State}
use Rattle.model.specs.Parts.{alter_thread, with_current}
use Rattle.model.specs.Words.{list_of, leave, re_enter}
use Rattle.model.specs.Before.{view}
use Rattle.placed.proofs.Leaving.{waiting_list}
use Rattle.table.specs.Orderly.{Does}
use Rattle.table.proofs.Retaking.{retaken_off, re_enter_waiting, re_enter_other}
use Rattle.table.proofs.OffList.{once-on, left-list}
use Rattle.table.proofs.Rooms.{ranked, list-room}
use Rattle.table.proofs.Views.{does, and_then, same_word}
use Rattle.table.proofs.priorities.take_elsewhere.Goals as goal
use Rattle.table.proofs.priorities.take_elsewhere.Goals.{After-leave_list-u, After-list_of-j}

-- the number found is the model's, and below 18 where the test passed
at-list : (c : After-list_of-j) → c.list_of-j.result ≡ list_of c.args.i (view c.args.t c.args.rows.now)
unfolding view
at-list c = c.list_of-j.ensures

listed : {j : ℕ} → leb 2 j && ltb j 18 ≡ true → j < 18
listed {j} h = ltb-true j 18 (right (leb 2 j) (ltb j 18) h)

off_list : (c : After-leave_list-u) → Does c.args.t c.args.rows.now (leave c.args.i) c.leave_list-u.result c.args.rows.now
off_list c =
    left-list c.requires.given c.list_of-j.ensures (listed c.if-j.true) c.leave_list-u.ensures

pub leave_list-u-requires : goal.leave_list-u-requires
leave_list-u-requires c =
    let j = c.list_of-j.result in record { orderly_table = c.requires.given.whole.order.table; j_bound = (listed c.if-j.true, once-on c.requires.given j) }

pub enter_by_priority-requires : goal.enter_by_priority-requires
enter_by_priority-requires c =
    let j = c.list_of-j.result in
    let h = listed c.if-j.true in
    let w = retaken_off c.requires.given c.args.p c.requires.p_bound.0 (off_list (goal.at.enter_by_priority-requires c).After-leave_list-u) c.with_current-v.ensures in record { orderly_table = w.given.whole.order.table; ranked = ranked w j h; j_bound = list-room w j h }

pub returns-then-j : goal.returns-then-j
returns-then-j c =
    let i = c.args.i in
    let v = view c.args.t c.args.rows.now in
    let d = off_list (goal.at.returns-then-j c).After-leave_list-u in
    let w = retaken_off c.requires.given c.args.p c.requires.p_bound.0 d c.with_current-v.ensures in
    let e = at-list (goal.at.returns-then-j c).After-list_of-j in
    same_word (λ (x : State). re_enter i (alter_thread i (with_current c.args.p) x))
    (and_then (and_then d (does c.args.rows.now d.order c.with_current-v.ensures))
    (does c.args.rows.now w.given.whole.order c.enter_by_priority.ensures))
    (rw e (re_enter_waiting i c.args.p v c.requires.p_bound.1 (waiting_list c.requires.given.whole.placed i _ e ∙ c.if-j.true)))

pub returns-else-j : goal.returns-else-j
returns-else-j c =
    let i = c.args.i in
    let v = view c.args.t c.args.rows.now in
    same_word (λ (x : State). re_enter i (alter_thread i (with_current c.args.p) x))
    (does c.args.rows.now c.requires.given.whole.order c.with_current.ensures)
    (re_enter_other i c.args.p v c.requires.p_bound.1 (waiting_list c.requires.given.whole.placed i _ (at-list (goal.at.returns-else-j c).After-list_of-j) ∙ c.if-j.false))
