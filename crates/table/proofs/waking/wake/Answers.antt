-- What the end of a wait writes moves nobody, so the thread can become ready as it stood: off the list that holds it, where that is no
-- ready list, and behind the others of its priority, where there is room for it then.
use mathlib.Core.Path.{◌≡◌, refl}
use mathlib.Core.List.{map}
use Prim.Native.Nat.{ℕ, ◌+◌, ◌<◌}
use native.Mathlib.Omega.{arith}
use lib.ListN.{get_or, set}
use Rattle.sequences.specs.Lists.{among, first_at, snoc, without}
use Rattle.rows.specs.Row.{Changed}
use Rattle.model.specs.declared.tables.Thread.{Thread}
use Rattle.model.specs.declared.tables.IdList.{IdList}
use Rattle.model.specs.declared.tables.Table.{Table}
use Rattle.model.specs.Parts.{with_wait}
use Rattle.model.specs.Words.{become_ready, leave, wake}
use Rattle.model.specs.Before as layout
use Rattle.model.specs.Before.{ids_of, list_at, thread_at}
use Rattle.table.specs.Orderly.{Listed, Given, Does}
use Rattle.table.proofs.OffList.{once-on, on_some, left-list}
use Rattle.table.proofs.Ready.{priority_below, entered_ready}
use Rattle.table.proofs.Rooms.{Off, left-off, row_room}
use Rattle.table.proofs.Views.{table-waits, table-lengths, stored_list, and_then}
use Rattle.table.proofs.Written.{written, read_again, writes, written_given}
use Rattle.table.proofs.waking.wake.Goals as goal
use Rattle.table.proofs.waking.wake.Goals.{After-without-shrunk, Else-j-eq-LIST_COUNT}

abbrev ended : ℕ → Thread → Thread
ended result = with_wait 0 result 0 0

module _ {t : Table} {rows : layout.Rows} {i : ℕ} (g : Given t rows i) (result : ℕ) where
  ended-given : Given (written i (ended result) t) rows i
  ended-given = written_given g (ended result) (λ x. refl)

  -- off list j, which is stored as l then
  module _ {j : ℕ} (e : j ≡ first_at (among i) (map ids_of t.waits)) (below : j < 18) {l : IdList}
      (shrunk : Listed l (without i (ids_of (list_at t.waits j)))) where
    abbrev off : Table
    off = table-waits (set t.waits j l) (written i (ended result) t)

    taken-off : Does (written i (ended result) t) rows (leave i) off rows
    taken-off =
        left-list ended-given e below
        (stored_list (written i (ended result) t) ended-given.whole.order.table j below l (without i) shrunk)

    off-all : Off off rows i
    off-all = left-off ended-given taken-off

    room : get_or t.lengths (thread_at t.threads i).current 0 < 16
    room = row_room off-all (thread_at t.threads i).current (priority_below refl g)

    awake : {after : layout.Rows} → let p = (thread_at t.threads i).current in let n = get_or t.lengths p 0 + 1 in
        Changed 16 8 rows t.lengths p n (snoc i) after → Does t rows (wake i result) (table-lengths (set t.lengths p n) off) after
    unfolding wake become_ready
    awake ch = and_then (writes g (ended result)) (and_then taken-off (entered_ready (read_again g (ended result)) taken-off.order ch))

listed : (c : Else-j-eq-LIST_COUNT) → c.list_of-j.result < 18
listed c = on_some c.requires c.list_of-j.ensures c.if-j-eq-LIST_COUNT.false

priority_in_range : (c : After-without-shrunk) → (thread_at c.args.t.threads c.args.i).current < 8
priority_in_range c = priority_below refl c.requires

priority-room : (c : After-without-shrunk) → get_or c.args.t.lengths (thread_at c.args.t.threads c.args.i).current 0 < 16
priority-room c =
    room c.requires c.args.res c.list_of-j.ensures (listed c.before.before) c.without-shrunk.ensures

pub become_ready-requires : goal.become_ready-requires
become_ready-requires c = ended-given c.requires c.args.res

pub returns-then-j-eq-LIST_COUNT : goal.returns-then-j-eq-LIST_COUNT
unfolding wake
returns-then-j-eq-LIST_COUNT c =
    and_then (writes c.requires (ended c.args.res)) c.become_ready.ensures

pub without-shrunk-requires : goal.without-shrunk-requires
without-shrunk-requires c =
    let j = c.list_of-j.result in record { row = c.requires.whole.order.table.lists j (listed (goal.at.without-shrunk-requires c).Else-j-eq-LIST_COUNT); l_bound = once-on c.requires j }

pub push-grown-requires : goal.push-grown-requires
push-grown-requires c = record { rows = c.requires.whole.order.ready; p_bound = (priority_in_range (goal.at.push-grown-requires c).After-without-shrunk, priority-room (goal.at.push-grown-requires c).After-without-shrunk) }

pub returns : goal.returns
returns c =
    let e = c.list_of-j.ensures in
    let below = listed (goal.at.returns c).Else-j-eq-LIST_COUNT in
    awake c.requires c.args.res e below c.without-shrunk.ensures c.push-grown.ensures

pub offset_bounds-u-j : goal.offset_bounds-u-j
offset_bounds-u-j c = omega (arith, listed c)

pub bounds-u-j : goal.bounds-u-j
bounds-u-j c = listed c

pub offset_bounds-u-j-2 : goal.offset_bounds-u-j-2
offset_bounds-u-j-2 c = omega (arith, listed (goal.at.offset_bounds-u-j-2 c).Else-j-eq-LIST_COUNT)

pub bounds-u-j-2 : goal.bounds-u-j-2
bounds-u-j-2 c = listed (goal.at.bounds-u-j-2 c).Else-j-eq-LIST_COUNT

pub bounds-lengths-p : goal.bounds-lengths-p
bounds-lengths-p c = priority_in_range (goal.at.bounds-lengths-p c).After-without-shrunk

pub overflow_add-lengths : goal.overflow_add-lengths
overflow_add-lengths c = omega (arith, priority-room (goal.at.overflow_add-lengths c).After-without-shrunk)

pub bounds-lengths-p-2 : goal.bounds-lengths-p-2
bounds-lengths-p-2 c = priority_in_range (goal.at.bounds-lengths-p-2 c).After-without-shrunk
