-- What is left of the running quantum, 0 where it doesn't count, tells what a spend or a leap does.
use mathlib.Core.Path.{◌≡◌, refl, sym, ap}
use mathlib.Core.Bool.{Bool, true, false, cond}
use mathlib.Core.List.{List}
use Prim.Native.Nat.{ℕ, ◌-◌, ◌<◌}
use native.Mathlib.Omega.{arith}
use borrow.Author.Tests.{eq-eqb, ne_eqb}
use Rattle.sequences.specs.Lists.{alter}
use Rattle.sequences.proofs.Places.{alter-none, alter_alike}
use Rattle.model.specs.declared.tables.Thread.{Thread}
use Rattle.model.specs.State.{State, absent_thread}
use Rattle.model.specs.Parts.{thread, with_threads, alter_thread, with_left, refilled}
use Rattle.model.specs.Words.{become_ready}
use Rattle.model.specs.Tick.{quantum_counts}
use Rattle.placed.specs.Placed.{Placed}
use Rattle.theorems.specs.Skip.{left_less, spent}
use Rattle.theorems.specs.Leap.{spend, quantum_leap}
use Rattle.theorems.proofs.Skips.{running, running-at}
use Rattle.theorems.proofs.LeapPlaced.{chosen_below}

module _ (s : State) where
  abbrev left : ℕ
  left = (thread s.chosen s).left

  pub quantum_below : Placed s → 0 < running s → s.chosen < 16
  quantum_below w h = chosen_below s w (by_test (quantum_counts s) h)
    where
      by_test : (b : Bool) → 0 < cond b left 0 → b ≡ true
      by_test true h = refl
      by_test false h = absurd (omega arith)

  pub spend-none : (m : ℕ) → running s ≡ 0 → s ≡ spend m s
  unfolding spend
  spend-none m e = ap (λ (l : List Thread). with_threads l s) (by_test (quantum_counts s) e)
    where
      by_test : (b : Bool) → cond b left 0 ≡ 0 → s.threads ≡ spent b m s.chosen s.threads
      by_test true e =
          sym (alter-none (left_less m) absent_thread s.chosen s.threads (ap (λ (n : ℕ). with_left n (thread s.chosen s)) (omega arith)))
      by_test false e = refl

  pub spend-some : (m : ℕ) {rest : ℕ} → 0 < running s → rest ≡ running s - m → alter_thread s.chosen (with_left rest) s ≡ spend m s
  unfolding spend
  spend-some m {rest} h e = ap (λ (l : List Thread). with_threads l s) (by_test (quantum_counts s) h e)
    where
      by_test : (b : Bool) → 0 < cond b left 0 → rest ≡ cond b left 0 - m
          → alter s.chosen (with_left rest) s.threads ≡ spent b m s.chosen s.threads
      by_test true h e = alter_alike (with_left rest) (left_less m) absent_thread s.threads s.chosen (ap (λ (n : ℕ). with_left n (thread s.chosen s)) e)
      by_test false h e = absurd (omega arith)

  module _ {gap : ℕ} (some : 0 < gap) where
    pub leap_ends : running s ≡ gap → become_ready s.chosen (alter_thread s.chosen refilled s) ≡ quantum_leap gap s
    unfolding quantum_leap
    leap_ends e = rw (running-at s gap some, eq-eqb (running s) gap e)

    pub leap_spends : (running s ≡ gap → ⊥) → spend gap s ≡ quantum_leap gap s
    unfolding quantum_leap
    leap_spends n = rw (running-at s gap some, ne_eqb (running s) gap n)
