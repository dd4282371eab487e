-- What a wait writes moves nobody, so the thread can leave as it stood: off its ready list where it is found there, else as any other
-- leaves. Then it is off all lists, so each list has room, and holds threads' ids.
use mathlib.Core.Path.{◌≡◌, refl}
use mathlib.Core.Bool.{true}
use Prim.Native.Nat.{ℕ, ◌-◌, ◌<◌}
use native.Mathlib.Omega.{arith}
use lib.ListN.{get_or, set}
use Rattle.sequences.specs.Lists.{remove_at}
use Rattle.rows.specs.Row.{Changed}
use Rattle.model.specs.declared.tables.Thread.{Thread}
use Rattle.model.specs.declared.tables.Table.{Table}
use Rattle.model.specs.Parts.{with_wait}
use Rattle.model.specs.Words.{is_ready, leave, enter_by_priority, suspend, start_to_wait}
use Rattle.model.specs.Before as layout
use Rattle.model.specs.Before.{view, list_at, thread_at}
use Rattle.table.specs.Orderly.{OrderlyTable, Given, Ranked, Meets, Does}
use Rattle.table.proofs.Ready.{found, priority_below, ready_if_found, place_found, left-ready}
use Rattle.table.proofs.Rooms.{left-off, list-room, ranked}
use Rattle.table.proofs.Views.{table-lengths, does, and_then}
use Rattle.table.proofs.Written.{written, read_again, writes, written_given}
use Rattle.table.proofs.waking.start_to_wait.Goals as goal
use Rattle.table.proofs.waking.start_to_wait.Goals.{After-find-at, Else-at-lengths}

module _ {t : Table} {rows : layout.Rows} {i : ℕ} (g : Given t rows i) (limit mask mode : ℕ) where
  abbrev begun : Thread → Thread
  begun = with_wait limit 0 mask mode

  begun-given : Given (written i begun t) rows i
  begun-given = written_given g begun (λ x. refl)

  -- off its list, in u
  module _ {u : Table} {after : layout.Rows} (d : Does (written i begun t) rows (leave i) u after) (j : ℕ) where
    may-enter : j < 18 → OrderlyTable u × (Ranked u j i × ((list_at u.waits j).length < 16))
    may-enter below =
        let w = left-off begun-given d in
        (d.order.table, (ranked w j below, list-room w j below))

    entered : {r : Table} → Meets u (enter_by_priority j i) r → Does t rows (start_to_wait j i limit mask mode) r after
    unfolding start_to_wait suspend
    entered m = and_then (writes g begun) (and_then d (does after d.order m))

  -- found at place k of the ready list of its current priority, which has n threads
  abbrev level : ℕ
  level = (thread_at t.threads i).current

  abbrev n : ℕ
  n = get_or t.lengths level 0

  module _ {k : ℕ} (at : k ≡ found t rows i level) (before : k ≡ n → ⊥) where
    ready : is_ready i (view (written i begun t) rows) ≡ true
    ready = ready_if_found (read_again g begun) begun-given at before

    place_below : k < n
    place_below = place_found (read_again g begun) begun-given ready at

    off-ready : {after : layout.Rows} → Changed 16 8 rows t.lengths level (n - 1) (remove_at k) after
        → Does (written i begun t) rows (leave i) (table-lengths (set t.lengths level (n - 1)) (written i begun t)) after
    off-ready ch = left-ready (read_again g begun) begun-given ready at ch

priority_in_range : (c : After-find-at) → (thread_at c.args.t.threads c.args.i).current < 8
priority_in_range c = priority_below refl c.requires.given

place : (c : Else-at-lengths) → c.find-at.result < get_or c.args.t.lengths (thread_at c.args.t.threads c.args.i).current 0
place c =
    place_below c.requires.given c.args.limit c.args.mask c.args.mode c.find-at.ensures c.if-at-lengths.false

pub find-at-requires : goal.find-at-requires
find-at-requires c = record { rows = c.requires.given.whole.order.ready; p_bound = priority_below refl c.requires.given }

pub overflow_cast-lengths : goal.overflow_cast-lengths
overflow_cast-lengths c =
    omega (arith, (c.requires.given.whole.order.ready.each (thread_at c.args.t.threads c.args.i).current (priority_in_range c)).room)

pub leave-off-requires : goal.leave-off-requires
leave-off-requires c =
    begun-given c.requires.given c.args.limit c.args.mask c.args.mode

pub enter_by_priority-requires : goal.enter_by_priority-requires
enter_by_priority-requires c = let all = (may-enter c.requires.given c.args.limit c.args.mask c.args.mode c.leave-off.ensures c.args.j c.requires.j_bound) in record { orderly_table = all.0; ranked = all.1.0; j_bound = all.1.1 }

pub returns-then-at-lengths : goal.returns-then-at-lengths
returns-then-at-lengths c =
    let a = c.args in
    entered c.requires.given a.limit a.mask a.mode c.leave-off.ensures a.j c.enter_by_priority.ensures

pub remove-shrunk-requires : goal.remove-shrunk-requires
remove-shrunk-requires c = record { rows = c.requires.given.whole.order.ready; p_bound = (priority_in_range (goal.at.remove-shrunk-requires c).After-find-at, place c) }

pub enter_by_priority-requires-2 : goal.enter_by_priority-requires-2
enter_by_priority-requires-2 c =
    let all = (let a = c.args in
    may-enter c.requires.given a.limit a.mask a.mode
    (off-ready c.requires.given a.limit a.mask a.mode c.find-at.ensures c.if-at-lengths.false c.remove-shrunk.ensures)
    a.j c.requires.j_bound) in record { orderly_table = all.0; ranked = all.1.0; j_bound = all.1.1 }

pub returns : goal.returns
returns c =
    let a = c.args in
    entered c.requires.given a.limit a.mask a.mode
    (off-ready c.requires.given a.limit a.mask a.mode c.find-at.ensures c.if-at-lengths.false c.remove-shrunk.ensures)
    a.j c.enter_by_priority-2.ensures

pub bounds-lengths-p : goal.bounds-lengths-p
bounds-lengths-p c = priority_in_range c

pub bounds-lengths-p-2 : goal.bounds-lengths-p-2
bounds-lengths-p-2 c = priority_in_range (goal.at.bounds-lengths-p-2 c).After-find-at

pub overflow_sub-lengths : goal.overflow_sub-lengths
overflow_sub-lengths c = omega (arith, place (goal.at.overflow_sub-lengths c).Else-at-lengths)

pub bounds-lengths-p-3 : goal.bounds-lengths-p-3
bounds-lengths-p-3 c = priority_in_range (goal.at.bounds-lengths-p-3 c).After-find-at
