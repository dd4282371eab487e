-- Off its list the thread takes the new priority and finds room in the list of it; the table after each of the three steps is named here, the
-- code writes them together.
use mathlib.Core.Path.{◌≡◌, refl, sym}
use Prim.Native.Nat.{◌<◌, ◌-◌}
use native.Mathlib.Omega.{arith}
use lib.ListN.{get_or, set}
use lib.Seq.{get_or-set_same}
use Rattle.model.specs.declared.tables.Table.{Table}
use Rattle.model.specs.declared.tables.Thread.{Thread}
use Rattle.model.specs.State.{State, absent_thread}
use Rattle.model.specs.Parts.{alter_thread, with_current}
use Rattle.model.specs.Words.{leave, re_enter}
use Rattle.model.specs.Before.{view, thread_at}
use Rattle.table.specs.Orderly.{Meets, Does}
use Rattle.table.proofs.Ready.{priority_below, place_found, left-ready, entered_ready}
use Rattle.table.proofs.Retaking.{retaken_off, re_enter-ready}
use Rattle.table.proofs.Rooms.{Off, row_room}
use Rattle.table.proofs.Views.{table-threads, table-lengths, changed_thread, does, and_then, same_word}
use Rattle.table.proofs.priorities.take_ready.Goals as goal
use Rattle.table.proofs.priorities.take_ready.Goals.{After-remove-shrunk, Start}

-- the thread's record, as it is read and as it is written
abbrev read : Start → Thread
read s = thread_at s.args.t.threads s.args.i

abbrev written : Start → Thread
written s = with_current s.args.p (read s)

below : (s : Start) → (read s).current < 8
below s = priority_below {x = read s} refl s.requires.given

-- the table without the thread on its list, and then with its new priority
abbrev left : Start → Table
left s = table-lengths (set s.args.t.lengths (read s).current (get_or s.args.t.lengths (read s).current 0 - 1)) s.args.t

abbrev changed : Start → Table
changed s = table-threads (set s.args.t.threads s.args.i (written s)) (left s)

abbrev start : After-remove-shrunk → Start
start c = c.before.before.before.before.before.before

leaves : (c : After-remove-shrunk) → Does (start c).args.t (start c).args.rows.now (leave (start c).args.i) (left (start c)) c.remove-shrunk.result
leaves c = let s = start c in left-ready {x = read s} refl s.requires.given s.requires.p_bound.1 c.find-at.ensures c.remove-shrunk.ensures

changes : (c : After-remove-shrunk) → Meets (left (start c)) (alter_thread (start c).args.i (with_current (start c).args.p)) (changed (start c))
changes c = let s = start c in changed_thread (left s) (leaves c).order.table s.args.i (with_current s.args.p)

off : (c : After-remove-shrunk) → Off (changed (start c)) c.remove-shrunk.result (start c).args.i
off c = let s = start c in retaken_off s.requires.given s.args.p s.requires.p_bound.0 (leaves c) (changes c)

-- the record is found where it was written
found : (s : Start) → written s ≡ thread_at (changed s).threads s.args.i
found s = sym (get_or-set_same s.args.t.threads s.args.i (written s) absent_thread (omega (arith, s.requires.given.thread, s.requires.given.whole.order.table.threads)))

pub find-at-requires : goal.find-at-requires
find-at-requires c = record { rows = c.requires.given.whole.order.ready; p_bound = below (goal.at.find-at-requires c).Start }

pub remove-shrunk-requires : goal.remove-shrunk-requires
remove-shrunk-requires c = record { rows = c.requires.given.whole.order.ready; p_bound = (below (goal.at.remove-shrunk-requires c).Start, place_found {x = read (goal.at.remove-shrunk-requires c).Start} refl c.requires.given c.requires.p_bound.1 c.find-at.ensures) }

pub overflow_sub-lengths : goal.overflow_sub-lengths
overflow_sub-lengths c = let s = start c in omega (arith, place_found {x = read s} refl s.requires.given s.requires.p_bound.1 c.find-at.ensures)

pub push-grown-requires : goal.push-grown-requires
push-grown-requires c = let s = start c in record { rows = (leaves c).order.ready; p_bound = (s.requires.p_bound.0, row_room (off c) s.args.p s.requires.p_bound.0) }

pub overflow_add-lengths : goal.overflow_add-lengths
overflow_add-lengths c = let s = start (goal.at.overflow_add-lengths c).After-remove-shrunk in omega (arith, row_room (off (goal.at.overflow_add-lengths c).After-remove-shrunk) s.args.p s.requires.p_bound.0)

pub returns : goal.returns
returns c =
    let s = start (goal.at.returns c).After-remove-shrunk in
    let enters = entered_ready {x = written s} (found s) (off (goal.at.returns c).After-remove-shrunk).given.whole.order c.push-grown.ensures in
    same_word (λ (x : State). re_enter s.args.i (alter_thread s.args.i (with_current s.args.p) x))
    (and_then (and_then (leaves (goal.at.returns c).After-remove-shrunk) (does c.remove-shrunk.result (leaves (goal.at.returns c).After-remove-shrunk).order (changes (goal.at.returns c).After-remove-shrunk))) enters)
    (re_enter-ready s.args.i s.args.p (view s.args.t s.args.rows.now) s.requires.p_bound.1)

pub overflow_cast-old : goal.overflow_cast-old
overflow_cast-old c = omega (arith, below (goal.at.overflow_cast-old c).Start)

pub bounds-lengths-old : goal.bounds-lengths-old
bounds-lengths-old c = below (start c)

pub bounds-lengths-old-2 : goal.bounds-lengths-old-2
bounds-lengths-old-2 c = below (start c)

pub bounds-lengths-new : goal.bounds-lengths-new
bounds-lengths-new c = (start (goal.at.bounds-lengths-new c).After-remove-shrunk).requires.p_bound.0

pub bounds-lengths-new-2 : goal.bounds-lengths-new-2
bounds-lengths-new-2 c = (start (goal.at.bounds-lengths-new-2 c).After-remove-shrunk).requires.p_bound.0
