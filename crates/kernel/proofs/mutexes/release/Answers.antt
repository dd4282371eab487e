-- Who runs is ready, so its fall moves it in the ready lists only, and those who wait for the mutex stand as before.
use mathlib.Core.Path.{◌≡◌, refl, ap}
use mathlib.Core.Bool.{true, false}
use mathlib.Core.List.{List}
use Prim.Native.Nat.{ℕ, ◌+◌, ◌-◌, ◌<◌}
use borrow.Author.Tests.{eq-eqb, ne_eqb, ltb-true, not-false}
use lib.Dec.{eqb, ltb}
use Rattle.sequences.proofs.Tests.{left}
use Rattle.model.specs.declared.tables.Mutex.{Mutex}
use Rattle.model.specs.State.{State}
use Rattle.model.specs.Parts.{thread, mutex, list, with_owner}
use Rattle.model.specs.Words.{owns}
use Rattle.model.specs.Sound.{thread_in_range}
use Rattle.model.specs.Calls.{answers, nobody_runs}
use Rattle.model.specs.Effects.{fall, hand_over, release_effect}
use Rattle.model.specs.Before.{view}
use Rattle.placed.specs.Placed.{Placed}
use Rattle.placed.proofs.Entering.{take_priority-placed}
use Rattle.table.proofs.Views.{does, and_then, same_word}
use Rattle.table.proofs.Rewriting.{rewritten_mutex}
use Rattle.theorems.proofs.Fits.{range}
use Rattle.theorems.proofs.Priorities.{take_priority-ready}
use Rattle.theorems.proofs.Running.{running-ready, running-waits}
use Rattle.kernel.proofs.Facts.{whole, steady, running_below, mutex-named, not-due}
use Rattle.kernel.proofs.mutexes.release.Goals as goal
use Rattle.kernel.proofs.mutexes.release.Goals.{Start}

module _ (s : Start) where
  abbrev seen : State
  seen = view s.args.t s.args.rows.now

  below : s.args.q.id < 4
  unfolding answers
  below = mutex-named s.requires refl

  runs : nobody_runs seen ≡ false
  unfolding answers
  runs = not-due s.requires 2 refl

  running : s.args.t.chosen < 16
  running = running_below s.requires runs

  deep : 0 < (mutex s.args.q.id seen).depth
  unfolding answers
  deep =
      let m = mutex s.args.q.id seen in
      let own : owns s.args.q.id seen.chosen seen ≡ true = not-false _ (not-due s.requires 3 refl) in
      ltb-true 0 m.depth (left (ltb 0 m.depth) (eqb m.owner seen.chosen) own)

  base-below : (thread seen.chosen seen).base < 8
  unfolding thread_in_range
  base-below = ltb-true (thread seen.chosen seen).base 8 (range ((steady s.requires).lawful.threads seen.chosen) 1)

  fall-placed : Placed (fall seen.chosen seen)
  unfolding fall view
  fall-placed = take_priority-placed seen.chosen (thread seen.chosen seen).base seen running base-below (whole s.requires).placed

  fall-list : (j : ℕ) → list j (fall seen.chosen seen) ≡ list j seen
  unfolding fall
  fall-list j =
      ap (list j)
      (take_priority-ready seen.chosen (thread seen.chosen seen).base seen (running-ready seen (steady s.requires) runs) (running-waits seen (steady s.requires) runs))

pub fall-u-requires : goal.fall-u-requires
unfolding view
fall-u-requires c = record { given = record { whole = whole c.requires; thread = running (goal.at.fall-u-requires c).Start }; i_bound = base-below (goal.at.fall-u-requires c).Start }

pub hand_over-requires : goal.hand_over-requires
unfolding view
hand_over-requires c =
    let d = c.fall-u.ensures in record { whole = record { order = d.order; placed = rw d.view (fall-placed (goal.at.hand_over-requires c).Start) }; o_bound = below (goal.at.hand_over-requires c).Start }

pub overflow_sub-x : goal.overflow_sub-x
unfolding view
overflow_sub-x c = deep (goal.at.overflow_sub-x c).Start

pub with_mutex-requires : goal.with_mutex-requires
with_mutex-requires c = record { orderly_table = (whole c.requires).order.table; o_bound = below (goal.at.with_mutex-requires c).Start }

pub returns-then-x-eq1 : goal.returns-then-x-eq1
unfolding release_effect view
returns-then-x-eq1 c =
    let o = c.args.q.id in
    let e : eqb (mutex o (seen (goal.at.returns-then-x-eq1 c).Start)).depth 1 ≡ true = eq-eqb _ _ c.if-x-eq1.true in
    same_word (release_effect c.args.q) (and_then c.fall-u.ensures c.hand_over.ensures)
    (rw e (ap (λ (l : List ℕ). hand_over o l (fall (seen (goal.at.returns-then-x-eq1 c).Start).chosen (seen (goal.at.returns-then-x-eq1 c).Start))) (fall-list (goal.at.returns-then-x-eq1 c).Start (10 + o))))

pub returns-else-x-eq1 : goal.returns-else-x-eq1
unfolding release_effect view
returns-else-x-eq1 c =
    let o = c.args.q.id in
    let e : eqb (mutex o (seen (goal.at.returns-else-x-eq1 c).Start)).depth 1 ≡ false = ne_eqb _ _ c.if-x-eq1.false in
    let less : Mutex → Mutex = λ x. with_owner x.owner (x.depth - 1) x in
    let m = rewritten_mutex c.args.t c.with_mutex.result o _ less refl c.with_mutex.ensures in
    same_word (release_effect c.args.q) (does c.args.rows.now (whole c.requires).order m) (rw e)

pub bounds-t-o : goal.bounds-t-o
bounds-t-o c = below (goal.at.bounds-t-o c).Start
