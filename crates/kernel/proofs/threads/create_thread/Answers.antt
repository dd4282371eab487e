-- The new record is stored while its thread stands on no list, so the stopped list has room.
use mathlib.Core.Path.{◌≡◌, refl, ◌∙◌, ap}
use mathlib.Core.Bool.{true, ◌&&◌}
use Prim.Native.Nat.{◌<◌, ◌≤◌}
use native.Mathlib.Omega.{arith}
use borrow.Author.Tests.{ltb-true, lt-ltb, leb-true, leb-false, not-false}
use Rattle.sequences.proofs.Tests.{left, right}
use Rattle.model.specs.declared.tables.Thread.{Thread}
use Rattle.model.specs.State.{State}
use Rattle.model.specs.Parts.{thread, alter_thread}
use Rattle.model.specs.Ranges.{is_priority, fits_16}
use Rattle.model.specs.Words.{enter_tail}
use Rattle.model.specs.Calls.{answers, unused_cd}
use Rattle.model.specs.Effects.{create_thread_effect}
use Rattle.model.specs.Before.{view}
use Rattle.placed.specs.Placed.{standing}
use Rattle.placed.proofs.Standing.{unready_placed}
use Rattle.table.proofs.Rooms.{off-after, list-room}
use Rattle.table.proofs.Views.{does, then, meets_word}
use Rattle.theorems.proofs.Fits.{range}
use Rattle.theorems.proofs.Running.{unset}
use Rattle.kernel.proofs.Facts.{whole, steady, not-due}
use Rattle.kernel.proofs.threads.create_thread.Goals as goal
use Rattle.kernel.proofs.threads.create_thread.Goals.{Start}

module _ (s : Start) where
  abbrev before : State
  before = view s.args.t s.requires.0

  below : s.args.q.id < 16
  unfolding answers
  below = leb-false 16 s.args.q.id (not-due s.requires.1 0 refl)

  numbers : is_priority s.args.q.a && fits_16 s.args.q.b ≡ true
  unfolding answers
  numbers =
      let q = s.args.q in
      left (is_priority q.a && fits_16 q.b) (unused_cd q) (not-false _ (not-due s.requires.1 1 refl))

  priority_below : s.args.q.a < 8
  priority_below = let q = s.args.q in ltb-true q.a 8 (left (is_priority q.a) (fits_16 q.b) numbers)

  quantum_fits : s.args.q.b ≤ 65535
  quantum_fits = let q = s.args.q in leb-true q.b 65535 (right (is_priority q.a) (fits_16 q.b) numbers)

  absent : (thread s.args.q.id before).created ≡ 0
  unfolding answers
  absent =
      let q = s.args.q in
      unset (thread q.id before).created (range ((steady s.requires.1).lawful.threads q.id) 0)
      (rw (lt-ltb q.id 16 below) at (not-due s.requires.1 2 refl))

  off : standing s.args.q.id before ≡ 0
  off = (steady s.requires.1).lawful.once s.args.q.id (λ e. absurd (omega (arith, below))) ∙ absent

pub overflow_cast-i : goal.overflow_cast-i
overflow_cast-i c = omega (arith, below (goal.at.overflow_cast-i c).Start)

pub overflow_cast-q : goal.overflow_cast-q
overflow_cast-q c = omega (arith, priority_below (goal.at.overflow_cast-q c).Start)

pub overflow_cast-q-2 : goal.overflow_cast-q-2
overflow_cast-q-2 c = omega (arith, quantum_fits (goal.at.overflow_cast-q-2 c).Start)

pub with_thread-u-requires : goal.with_thread-u-requires
with_thread-u-requires c = record { orderly_table = (whole c.requires.1).order.table; i_bound = below (goal.at.with_thread-u-requires c).Start }

pub enter_tail-requires : goal.enter_tail-requires
enter_tail-requires c =
    let i = c.args.q.id in
    let x = c.new_thread-x.result in
    let current : x.current < 8 = rw c.new_thread-x.ensures (priority_below (goal.at.enter_tail-requires c).Start) in
    let placed = unready_placed i (λ _. x) (before (goal.at.enter_tail-requires c).Start) current (omega (arith, off (goal.at.enter_tail-requires c).Start)) (whole c.requires.1).placed in
    let w = off-after (does c.requires.0 (whole c.requires.1).order c.with_thread-u.ensures) (below (goal.at.enter_tail-requires c).Start) placed (off (goal.at.enter_tail-requires c).Start) in record { orderly_table = w.given.whole.order.table; j_bound = (omega arith, list-room w 1 (omega arith)) }

pub returns : goal.returns
unfolding create_thread_effect
returns c =
    let i = c.args.q.id in
    meets_word (create_thread_effect c.args.q) (then c.with_thread-u.ensures c.enter_tail.ensures)
    (λ rows. ap (λ (x : Thread). enter_tail 1 i (alter_thread i (λ _. x) (view c.args.t rows))) c.new_thread-x.ensures)
