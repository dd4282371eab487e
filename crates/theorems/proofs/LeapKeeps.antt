-- What a leap leaves alone: the walk over the timers leaves threads standing as they must, the quantum's part and the walk over the limits
-- leave the timers, and the choice every counter but the quantum of whom it chooses. So what the walks find nearest is so to the end.
use mathlib.Core.Path.{◌≡◌, refl, sym, ◌∙◌, ap, ap₂}
use mathlib.Core.Bool.{Bool, true, false, cond, not, ◌&&◌}
use mathlib.Core.List.{List, map}
use Prim.Native.Nat.{ℕ}
use lib.Dec.{eqb}
use Rattle.sequences.specs.Lists.{nearest, nearer}
use Rattle.sequences.specs.Steps.{in_order}
use Rattle.sequences.proofs.Changes.{alter-kept}
use Rattle.sequences.proofs.InOrder.{in_order-keeps, in_order-holds}
use Rattle.model.specs.declared.tables.Thread.{Thread}
use Rattle.model.specs.declared.tables.Timer.{Timer}
use Rattle.model.specs.State.{State, scheduling_on, timer_count, thread_count}
use Rattle.model.specs.Parts.{thread, with_chosen, alter_thread, refilled}
use Rattle.model.specs.Words.{leave, enter_ready, become_ready, wake, choice, choose}
use Rattle.model.specs.Tick.{quantum_counts}
use Rattle.model.specs.Time.{next}
use Rattle.placed.specs.Placed.{Placed}
use Rattle.theorems.specs.Skip.{limit_less}
use Rattle.theorems.specs.Leap.{spend, quantum_leap, timer_leap, run_out, limit_leap}
use Rattle.theorems.proofs.Skips.{running, times, limits}
use Rattle.theorems.proofs.LeapPlaced.{timer_leap-placed}

-- ---- where threads stand

pub timers-placed : (gap : ℕ) (s : State) → Placed s → Placed (in_order timer_count (timer_leap gap) s)
timers-placed gap = in_order-holds Placed (timer_leap gap) timer_count (λ o h. timer_leap-placed gap o)

-- ---- the timers

pub quantum_leap-timers : (gap : ℕ) (s : State) → (quantum_leap gap s).timers ≡ s.timers
unfolding quantum_leap spend become_ready enter_ready leave
quantum_leap-timers gap s = by_test (quantum_counts s && eqb (thread s.chosen s).left gap)
  where
    by_test : (b : Bool) → (cond b (become_ready s.chosen (alter_thread s.chosen refilled s)) (spend gap s)).timers ≡ s.timers
    by_test true = refl
    by_test false = refl

limit_leap-timers : (gap i : ℕ) (s : State) → (limit_leap gap i s).timers ≡ s.timers
unfolding limit_leap wake become_ready enter_ready leave
limit_leap-timers gap i s = by_test (eqb (thread i s).limit gap)
  where
    by_test : (b : Bool) → (cond b (run_out i s) (alter_thread i (limit_less gap) s)).timers ≡ s.timers
    by_test true = refl
    by_test false = refl

pub limits-timers : (gap : ℕ) (s : State) → (in_order thread_count (limit_leap gap) s).timers ≡ s.timers
limits-timers gap = in_order-keeps (limit_leap gap) (λ (s : State). s.timers) thread_count (λ i h. limit_leap-timers gap i)

-- ---- the choice

pub choose_counters : (s : State) → ((choose s).timers ≡ s.timers) × (limits (choose s) ≡ limits s)
unfolding choose
choose_counters s = by_test (scheduling_on s && not (eqb (choice s) s.chosen))
  where
    by_test : (b : Bool) → ((cond b (with_chosen (choice s) (alter_thread (choice s) refilled s)) s).timers ≡ s.timers)
        × (limits (cond b (with_chosen (choice s) (alter_thread (choice s) refilled s)) s) ≡ limits s)
    by_test true = (refl, alter-kept (λ (t : Thread). t.limit) refilled (λ t. refl) (choice s) s.threads)
    by_test false = (refl, refl)

-- ---- the next wake-up

-- what the walks found, with the quantum of who is chosen then
module _ (gap : ℕ) (s : State) where
  abbrev after : State
  after = in_order thread_count (limit_leap gap) s

  pub next_walked : nearer (running (choose after)) (nearer (nearest (times s)) (nearest (limits after))) ≡ next (choose after)
  unfolding next
  next_walked =
      let counters = choose_counters after in
      let same : times s ≡ times (choose after) = ap (map (λ (t : Timer). t.left)) (sym (counters.0 ∙ limits-timers gap s)) in
      ap₂ (λ (ts ls : List ℕ). nearer (running (choose after)) (nearer (nearest ts) (nearest ls))) same (sym counters.1)
