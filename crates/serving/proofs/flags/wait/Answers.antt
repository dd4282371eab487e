-- The call is allowed, so its numbers fit and a thread runs; the test on the word that was read is the model's.
use mathlib.Core.Path.{◌≡◌, refl, sym, ◌∙◌, ap}
use mathlib.Core.Bool.{true, false}
use mathlib.Core.List.{List}
use Prim.Native.Nat.{ℕ, ◌<◌, ◌≤◌}
use native.Mathlib.Omega.{arith}
use borrow.Author.Tests.{not-false}
use Rattle.sequences.proofs.Places.{alter_twice}
use Rattle.model.specs.declared.requests.Request.{Request}
use Rattle.model.specs.declared.tables.Thread.{Thread}
use Rattle.model.specs.State.{flags_list}
use Rattle.model.specs.Parts.{flag_object, alter_thread, with_threads, with_result, with_delivered}
use Rattle.model.specs.Words.{start_to_wait, holds}
use Rattle.model.specs.Calls.{answers, nobody_runs}
use Rattle.model.specs.Effects.{wait_effect}
use Rattle.model.specs.Layout.{view}
use Rattle.fields.specs.Fields.{Alters}
use Rattle.rules.proofs.InRange.{wait-fits}
use Rattle.theorems.proofs.Allowing.{running_below, flags-named, not-due}
use Rattle.words.specs.Images.{Whole, Does}
use Rattle.words.proofs.Does.{rewritten_does, and_then, same_word}
use Rattle.words.proofs.Accepted.{running}
use Rattle.serving.proofs.flags.wait.Goals as goal
use Rattle.serving.proofs.flags.wait.Goals.{Start}

below : (s : Start) → s.args.q.id < 4
unfolding answers
below s = flags-named s.requires.allowed refl

widths : (s : Start) → (s.args.q.a ≤ 65535) × (s.args.q.b ≤ 3)
unfolding answers
widths s = let q = s.args.q in wait-fits q.a q.b q.c q.d (not-false _ (not-due s.requires.allowed 1 refl))

runs : (s : Start) → nobody_runs (view s.args.image.now) ≡ false
unfolding answers
runs s = not-due s.requires.allowed 2 refl

module _ (q : Request) {b : List ℕ} {c word : ℕ} (chosen : c ≡ (view b).chosen) (read : word ≡ (flag_object q.id (view b)).word) where
  delivered : {u r : List ℕ} → Whole b → holds q.b q.a word ≡ true → Alters b (alter_thread c (with_result 1)) u
      → Alters u (alter_thread c (with_delivered word)) r → Does b (wait_effect q) r
  unfolding wait_effect
  delivered w e f g =
      let d = rewritten_does c (with_result 1) w f (λ t. refl) in
      same_word (and_then d (rewritten_does c (with_delivered word) d.whole g (λ t. refl))) (wait_effect q)
      (rw (← read, e, chosen)
      (ap (λ (l : List Thread). with_threads l (view b)) (alter_twice (with_delivered word) (with_result 1) (view b).chosen (view b).threads)))

  waits : {r : List ℕ} → holds q.b q.a word ≡ false → Does b (start_to_wait (flags_list q.id) c q.c q.a q.b) r
      → Does b (wait_effect q) r
  unfolding wait_effect
  waits e d = same_word d (wait_effect q) (rw (← read, e, chosen))

pub overflow_cast-mask : goal.overflow_cast-mask
overflow_cast-mask c = omega (arith, widths (goal.at.overflow_cast-mask c).Start)

pub overflow_cast-mode : goal.overflow_cast-mode
overflow_cast-mode c = omega (arith, widths (goal.at.overflow_cast-mode c).Start)

pub word-word-requires : goal.word-word-requires
word-word-requires c =
    below (goal.at.word-word-requires c).Start

pub set_result-requires : goal.set_result-requires
set_result-requires c =
    omega (arith, c.chosen-c.ensures, running_below c.requires.allowed (runs (goal.at.set_result-requires c).Start))

pub set_delivered-requires : goal.set_delivered-requires
set_delivered-requires c =
    omega (arith, c.chosen-c.ensures, running_below c.requires.allowed (runs (goal.at.set_delivered-requires c).Start))

pub start_to_wait-requires : goal.start_to_wait-requires
start_to_wait-requires c = record { ready = running c.chosen-c.ensures c.requires.whole c.requires.allowed (runs (goal.at.start_to_wait-requires c).Start); j_bound = omega (arith, below (goal.at.start_to_wait-requires c).Start) }

pub returns-then-holds : goal.returns-then-holds
returns-then-holds c =
    delivered c.args.q c.chosen-c.ensures c.word-word.ensures c.requires.whole
    (sym c.holds.ensures ∙ c.if-holds.true)
    c.set_result.ensures c.set_delivered.ensures

pub returns-else-holds : goal.returns-else-holds
returns-else-holds c =
    waits c.args.q c.chosen-c.ensures c.word-word.ensures (sym c.holds.ensures ∙ c.if-holds.false)
    c.start_to_wait.ensures
