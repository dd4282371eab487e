-- The running quantum in a tick that is known to come no later than its end: it ends there, it is less, or none counts.
use Rattle.std.proofs.Common.{◌≡◌, ℕ, ◌-◌, ◌<◌, Bool, true, false, cond, ◌&&◌, ltb, leb, List, length, get_or, sym, refl, ap, ◌∙◌, arith, eq-eqb, ne_eqb}
use native.Mathlib.Nat.{zero-sub}
use Rattle.sequences.specs.Lists.{nearest, nearer}
use Rattle.sequences.proofs.Places.{alter-none, alter-keeps}
use Rattle.sequences.proofs.Changes.{alter_changes}
use Rattle.sequences.proofs.Counters.{less}
use Rattle.sequences.proofs.Tests.{left}
use Rattle.model.specs.declared.tables.Thread.{Thread}
use Rattle.model.specs.State.{State, scheduling_on, absent_thread}
use Rattle.model.specs.Parts.{thread, ready_list, with_left, with_threads}
use Rattle.model.specs.Tick.{quantum_counts}
use Rattle.theorems.specs.Skip.{left_less, spent}
use Rattle.theorems.specs.Leap.{spend, quantum_leap}
use Rattle.theorems.proofs.Retimed.{counts_alike}
use Rattle.theorems.proofs.Skips.{running-at, spent-limits}
use Rattle.timed.specs.Counters.{times, running, nearest_counter}
use Rattle.timed.specs.Running.{TimersTo, LimitsFrom}
use Rattle.timed.specs.Turns.{turn_over}

pub counts_on : (s : State) → quantum_counts s ≡ true → scheduling_on s ≡ true
unfolding quantum_counts
counts_on s e =
    let t = thread s.chosen s in
    let shared = leb 2 (length (ready_list t.current s)) in
    left (scheduling_on s) (ltb 0 t.quantum) (left (scheduling_on s && ltb 0 t.quantum) shared e)

-- what is left where a quantum runs
pub running-left : (s : State) → 0 < running s → (quantum_counts s ≡ true) × (running s ≡ (thread s.chosen s).left)
running-left s some = by_test (quantum_counts s) some
  where
    by_test : (b : Bool) → 0 < cond b (thread s.chosen s).left 0 → (b ≡ true) × (cond b (thread s.chosen s).left 0 ≡ (thread s.chosen s).left)
    by_test true h = (refl, refl)
    by_test false h = absurd (omega (arith, h))

pub spend-idle : (m : ℕ) (s : State) → running s ≡ 0 → spend m s ≡ s
unfolding spend
spend-idle m s none = by_test (quantum_counts s) none
  where
    by_test : (b : Bool) → cond b (thread s.chosen s).left 0 ≡ 0 → with_threads (spent b m s.chosen s.threads) s ≡ s
    by_test true e =
        ap (λ ts. with_threads ts s)
        (alter-none (left_less m) absent_thread s.chosen s.threads (ap (λ x. with_left x (thread s.chosen s)) (ap (λ x. x - m) e ∙ zero-sub m ∙ sym e)))
    by_test false e = refl

-- ---- spent

module _ (m : ℕ) (s : State) where
  -- a field that spending leaves alone
  kept : (p : Thread → ℕ) → ((t : Thread) → p (left_less m t) ≡ p t) → (b : Bool) (i : ℕ)
      → p (get_or (spent b m s.chosen s.threads) i absent_thread) ≡ p (thread i s)
  kept p same true i = alter-keeps p (left_less m) same s.chosen s.threads i absent_thread
  kept p same false i = refl

  pub spend-running : running (spend m s) ≡ running s - m
  unfolding spend
  spend-running =
      let counts = quantum_counts s in
      ap (λ (b : Bool). cond b (thread s.chosen (spend m s)).left 0)
      (counts_alike (spent counts m s.chosen s.threads) s (kept (λ t. t.quantum) (λ t. refl) counts s.chosen)
      (kept (λ t. t.current) (λ t. refl) counts s.chosen))
      ∙ by_test counts
    where
      by_test : (b : Bool) → cond b (get_or (spent b m s.chosen s.threads) s.chosen absent_thread).left 0 ≡ cond b (thread s.chosen s).left 0 - m
      by_test true = alter_changes (λ (t : Thread). t.left) (left_less m) (less m) (λ t. refl) s.chosen s.threads absent_thread (sym (zero-sub m))
      by_test false = sym (zero-sub m)

  pub spend-nearest : nearest_counter (spend m s) ≡ nearest_counter s
  unfolding spend
  spend-nearest = ap (λ (l : List ℕ). nearer (nearest (times s)) (nearest l)) (spent-limits (quantum_counts s) m s.chosen s.threads)

  pub spend-timers_to : {end : ℕ} → TimersTo end s → TimersTo end (spend m s)
  unfolding spend
  spend-timers_to w = record { most = w.most; behind = w.behind }

  pub spend-limits-from : {from end : ℕ} → LimitsFrom from end s → LimitsFrom from end (spend m s)
  unfolding spend
  spend-limits-from w =
      let same = kept (λ t. t.limit) (λ t. refl) (quantum_counts s) in
      record { order = w.order; most = w.most; before = λ i h. same i ∙ w.before i h; behind = λ i h. same i ∙ w.behind i h }

-- ---- in a tick

module _ (gap : ℕ) (s : State) (some : 0 < gap) where
  pub quantum_ends : running s ≡ gap → turn_over s ≡ quantum_leap gap s
  unfolding quantum_leap turn_over
  quantum_ends e = rw (running-at s gap some, eq-eqb (running s) gap e)

  pub quantum_lasts : (running s ≡ gap → ⊥) → spend gap s ≡ quantum_leap gap s
  unfolding quantum_leap
  quantum_lasts e = rw (running-at s gap some, ne_eqb (running s) gap e)
