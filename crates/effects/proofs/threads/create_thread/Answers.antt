-- The new record is stored while its thread stands on no list, and still it stands on none.
use mathlib.Core.Path.{◌≡◌, refl, ◌∙◌, ap}
use mathlib.Core.Bool.{true, ◌&&◌}
use mathlib.Core.List.{List}
use Prim.Native.Nat.{ℕ, ◌<◌, ◌≤◌}
use native.Mathlib.Omega.{arith}
use borrow.Author.Tests.{ltb-true, lt-ltb, leb-true, leb-false, not-false}
use Rattle.sequences.proofs.Tests.{left, right}
use Rattle.model.specs.declared.tables.Thread.{Thread}
use Rattle.model.specs.Parts.{thread, alter_thread}
use Rattle.model.specs.Ranges.{is_priority, fits_16}
use Rattle.model.specs.Words.{enter_tail}
use Rattle.model.specs.Calls.{answers, unused_cd}
use Rattle.model.specs.Effects.{new_thread, create_thread_effect}
use Rattle.model.specs.Layout.{view}
use Rattle.theorems.proofs.Allowing.{steady, not-due}
use Rattle.theorems.proofs.Fits.{range}
use Rattle.theorems.proofs.Running.{unset}
use Rattle.fields.specs.Fields.{Alters}
use Rattle.words.specs.Images.{Off, Does}
use Rattle.words.proofs.Does.{and_then, same_word, off-after}
use Rattle.effects.proofs.Standing.{stored_does}
use Rattle.effects.proofs.threads.create_thread.Goals as goal
use Rattle.effects.proofs.threads.create_thread.Goals.{Start}

module _ (s : Start) where
  below : s.args.q.id < 16
  unfolding answers
  below = leb-false 16 s.args.q.id (not-due s.requires.allowed 0 refl)

  numbers : is_priority s.args.q.a && fits_16 s.args.q.b ≡ true
  unfolding answers
  numbers =
      let q = s.args.q in
      left (is_priority q.a && fits_16 q.b) (unused_cd q) (not-false _ (not-due s.requires.allowed 1 refl))

  priority_below : s.args.q.a < 8
  priority_below = let q = s.args.q in ltb-true q.a 8 (left (is_priority q.a) (fits_16 q.b) numbers)

  quantum_fits : s.args.q.b ≤ 65535
  quantum_fits = let q = s.args.q in leb-true q.b 65535 (right (is_priority q.a) (fits_16 q.b) numbers)

  absent : (thread s.args.q.id (view s.args.image.now)).created ≡ 0
  unfolding answers
  absent =
      let q = s.args.q in
      unset (thread q.id (view s.args.image.now)).created (range ((steady s.requires.allowed).lawful.threads q.id) 0)
      (rw (lt-ltb q.id 16 below) at (not-due s.requires.allowed 2 refl))

  off : Off s.args.image.now s.args.q.id
  off =
      record {
        given = record { whole = s.requires.whole; thread = below };
        off = (steady s.requires.allowed).lawful.once s.args.q.id (λ e. absurd (omega (arith, below))) ∙ absent;
      }

  stored : {x : Thread} {r : List ℕ} → x ≡ new_thread s.args.q.a s.args.q.b
      → Alters s.args.image.now (alter_thread s.args.q.id (λ _. x)) r
      → Does s.args.image.now (alter_thread s.args.q.id (λ _. x)) r
  stored {x} e a = stored_does x off (rw e priority_below) a

pub overflow_cast-q : goal.overflow_cast-q
overflow_cast-q c = omega (arith, priority_below (goal.at.overflow_cast-q c).Start)

pub overflow_cast-q-2 : goal.overflow_cast-q-2
overflow_cast-q-2 c = omega (arith, quantum_fits (goal.at.overflow_cast-q-2 c).Start)

pub store-requires : goal.store-requires
store-requires c = (off (goal.at.store-requires c).Start).given.thread

pub enter_tail-requires : goal.enter_tail-requires
enter_tail-requires c =
    record { off = off-after (stored (goal.at.enter_tail-requires c).Start c.new_thread-x.ensures c.store.ensures) (off (goal.at.enter_tail-requires c).Start).given (off (goal.at.enter_tail-requires c).Start).off; list = omega arith }

pub returns : goal.returns
unfolding create_thread_effect
returns c =
    let q = c.args.q in
    same_word (and_then (stored (goal.at.returns c).Start c.new_thread-x.ensures c.store.ensures) c.enter_tail.ensures) (create_thread_effect q)
    (ap (λ (t : Thread). enter_tail 1 q.id (alter_thread q.id (λ _. t) (view c.args.image.now))) c.new_thread-x.ensures)
