-- A new base moves nobody, so the thread can take its new current priority where it stood.
use mathlib.Core.Path.{refl, ap}
use mathlib.Core.Bool.{Bool, true, false, cond}
use Prim.Native.Nat.{ℕ, ◌<◌, max}
use native.Mathlib.Omega.{arith}
use borrow.Author.Tests.{ltb-true, not-false}
use Rattle.sequences.proofs.Tests.{left}
use Rattle.model.specs.State.{State}
use Rattle.model.specs.Parts.{thread, alter_thread, with_base}
use Rattle.model.specs.Ranges.{is_priority}
use Rattle.model.specs.Words.{owns_any, take_priority}
use Rattle.model.specs.Calls.{answers, unused_bcd}
use Rattle.model.specs.Effects.{new_current, set_priority_effect}
use Rattle.model.specs.Layout.{view}
use Rattle.theorems.proofs.Allowing.{not-due, thread-named}
use Rattle.words.specs.Images.{Given}
use Rattle.words.proofs.Does.{rewritten_does, and_then, same_word, given-still}
use Rattle.effects.proofs.threads.set_priority.Goals as goal
use Rattle.effects.proofs.threads.set_priority.Goals.{Start}

module _ (s : Start) where
  abbrev before : State
  before = view s.args.image.now

  base-below : s.args.q.a < 8
  unfolding answers
  base-below =
      let q = s.args.q in
      ltb-true q.a 8 (left (is_priority q.a) (unused_bcd q) (not-false _ (not-due s.requires.allowed 1 refl)))

  given : Given s.args.image.now s.args.q.id
  unfolding answers
  given = record { whole = s.requires.whole; thread = thread-named s.requires.allowed refl }

  new-below : new_current s.args.q.id s.args.q.a before < 8
  new-below = by_owner (owns_any s.args.q.id before)
    where
      by_owner : (owner : Bool) → cond owner (max s.args.q.a (thread s.args.q.id before).current) s.args.q.a < 8
      by_owner true = omega (arith, base-below, given.whole.placed.priorities s.args.q.id)
      by_owner false = base-below

pub overflow_cast-base : goal.overflow_cast-base
overflow_cast-base c = omega (arith, base-below (goal.at.overflow_cast-base c).Start)

pub new_current-p-requires : goal.new_current-p-requires
new_current-p-requires c = (given (goal.at.new_current-p-requires c).Start).thread

pub set_base-requires : goal.set_base-requires
set_base-requires c = (given (goal.at.set_base-requires c).Start).thread

pub take_priority-requires : goal.take_priority-requires
take_priority-requires c =
    let q = c.args.q in
    let p : c.new_current-p.result < 8 = rw c.new_current-p.ensures (new-below (goal.at.take_priority-requires c).Start) in record { given = given-still (rewritten_does q.id (with_base q.a) c.requires.whole c.set_base.ensures (λ t. refl)) (given (goal.at.take_priority-requires c).Start); p_bound = p }

pub returns : goal.returns
unfolding set_priority_effect
returns c =
    let q = c.args.q in
    same_word
    (and_then (rewritten_does q.id (with_base q.a) c.requires.whole c.set_base.ensures (λ t₁. refl)) c.take_priority.ensures)
    (set_priority_effect q)
    (ap (λ (p : ℕ). take_priority q.id p (alter_thread q.id (with_base q.a) (before (goal.at.returns c).Start))) c.new_current-p.ensures)
