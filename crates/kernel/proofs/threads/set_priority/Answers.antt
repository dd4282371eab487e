-- A new base moves nobody, so the thread can take its new current priority where it stood.
use mathlib.Core.Path.{refl, ap}
use mathlib.Core.Bool.{Bool, true, false, cond}
use Prim.Native.Nat.{ℕ, ◌<◌, max}
use native.Mathlib.Omega.{arith}
use borrow.Author.Tests.{ltb-true, not-false}
use Rattle.sequences.proofs.Tests.{left}
use Rattle.model.specs.State.{State}
use Rattle.model.specs.Parts.{thread, alter_thread, with_base}
use Rattle.model.specs.Ranges.{is_priority}
use Rattle.model.specs.Words.{owns_any, take_priority}
use Rattle.model.specs.Calls.{answers, unused_bcd}
use Rattle.model.specs.Effects.{new_current, set_priority_effect}
use Rattle.model.specs.Before.{view}
use Rattle.placed.proofs.Standing.{alter-placed}
use Rattle.table.specs.Orderly.{Given}
use Rattle.table.proofs.Rooms.{given-after}
use Rattle.table.proofs.Stored.{sound-given}
use Rattle.table.proofs.Views.{does, and_then, same_word}
use Rattle.kernel.proofs.Facts.{not-due, thread-named}
use Rattle.kernel.proofs.threads.set_priority.Goals as goal
use Rattle.kernel.proofs.threads.set_priority.Goals.{Start}

module _ (s : Start) where
  abbrev before : State
  before = view s.args.t s.args.rows.now

  below : s.args.q.id < 16
  unfolding answers
  below = thread-named s.requires refl

  base-below : s.args.q.a < 8
  unfolding answers
  base-below =
      let q = s.args.q in
      ltb-true q.a 8 (left (is_priority q.a) (unused_bcd q) (not-false _ (not-due s.requires 1 refl)))

  given : Given s.args.t s.args.rows.now s.args.q.id
  given = sound-given s.requires.sound below

  new-below : new_current s.args.q.id s.args.q.a before < 8
  new-below = by_owner (owns_any s.args.q.id before)
    where
      by_owner : (owner : Bool) → cond owner (max s.args.q.a (thread s.args.q.id before).current) s.args.q.a < 8
      by_owner true = omega (arith, base-below, given.whole.placed.priorities s.args.q.id)
      by_owner false = base-below

pub overflow_cast-i : goal.overflow_cast-i
overflow_cast-i c = omega (arith, below (goal.at.overflow_cast-i c).Start)

pub overflow_cast-base : goal.overflow_cast-base
overflow_cast-base c = omega (arith, base-below (goal.at.overflow_cast-base c).Start)

pub new_current-p-requires : goal.new_current-p-requires
new_current-p-requires c = below (goal.at.new_current-p-requires c).Start

pub with_base-u-requires : goal.with_base-u-requires
with_base-u-requires c = record { orderly_table = (given (goal.at.with_base-u-requires c).Start).whole.order.table; i_bound = below (goal.at.with_base-u-requires c).Start }

pub take_priority-requires : goal.take_priority-requires
take_priority-requires c =
    let q = c.args.q in
    let rows = c.args.rows.now in
    let d = does rows (given (goal.at.take_priority-requires c).Start).whole.order c.with_base-u.ensures in
    let p : c.new_current-p.result < 8 = rw (c.new_current-p.ensures rows) (new-below (goal.at.take_priority-requires c).Start) in record { given = given-after d (below (goal.at.take_priority-requires c).Start) (alter-placed q.id (with_base q.a) (before (goal.at.take_priority-requires c).Start) (λ x. refl) (given (goal.at.take_priority-requires c).Start).whole.placed); p_bound = p }

pub returns : goal.returns
unfolding set_priority_effect
returns c =
    let q = c.args.q in
    let rows = c.args.rows.now in
    same_word (set_priority_effect q) (and_then (does rows (given (goal.at.returns c).Start).whole.order c.with_base-u.ensures) c.take_priority.ensures)
    (ap (λ (p : ℕ). take_priority q.id p (alter_thread q.id (with_base q.a) (before (goal.at.returns c).Start))) (c.new_current-p.ensures rows))
