-- Each part of a leap leaves threads standing as they must: it changes counters, or is made of words that do.
use mathlib.Core.Path.{◌≡◌, refl}
use mathlib.Core.Bool.{Bool, true, false, cond, ◌&&◌}
use Prim.Native.Nat.{ℕ, ◌<◌}
use native.Mathlib.Omega.{arith}
use lib.Dec.{eqb}
use Rattle.sequences.proofs.Tests.{left}
use Rattle.sequences.proofs.Parts.{place_below}
use Rattle.model.specs.declared.tables.Thread.{Thread}
use Rattle.model.specs.State.{State, absent_thread}
use Rattle.model.specs.Parts.{thread, timer, with_threads, alter_thread, alter_timer, refilled}
use Rattle.model.specs.Words.{sleeps, become_ready}
use Rattle.model.specs.Tick.{quantum_counts, expired}
use Rattle.placed.specs.Placed.{Placed}
use Rattle.placed.proofs.Standing.{unmoved_placed, alter-placed}
use Rattle.placed.proofs.Entering.{become_ready-placed, wake-placed}
use Rattle.placed.proofs.Acting.{act-placed}
use Rattle.theorems.specs.Skip.{left_less, limit_less, time_less, spent}
use Rattle.theorems.specs.Leap.{spend, quantum_leap, expire, timer_leap, run_out, limit_leap}
use Rattle.theorems.proofs.Ticking.{counts_quantum}

-- ---- 2

pub spend-placed : (m : ℕ) (s : State) → Placed s → Placed (spend m s)
unfolding spend
spend-placed m s w = by_test (quantum_counts s)
  where
    by_test : (b : Bool) → Placed (with_threads (spent b m s.chosen s.threads) s)
    by_test true = alter-placed s.chosen (left_less m) s (λ t. refl) w
    by_test false = w

-- who has a quantum is a thread
pub chosen_below : (s : State) → Placed s → quantum_counts s ≡ true → s.chosen < 16
chosen_below s w e =
    omega (arith, w.threads, place_below (λ (t : Thread). t.quantum) absent_thread s.threads refl s.chosen (counts_quantum s e))

pub quantum_leap-placed : (gap : ℕ) (s : State) → Placed s → Placed (quantum_leap gap s)
unfolding quantum_leap
quantum_leap-placed gap s w = by_test (quantum_counts s && eqb (thread s.chosen s).left gap) refl
  where
    by_test : (b : Bool) → quantum_counts s && eqb (thread s.chosen s).left gap ≡ b
        → Placed (cond b (become_ready s.chosen (alter_thread s.chosen refilled s)) (spend gap s))
    by_test true e =
        become_ready-placed s.chosen (alter_thread s.chosen refilled s)
        (chosen_below s w (left (quantum_counts s) (eqb (thread s.chosen s).left gap) e)) (alter-placed s.chosen refilled s (λ t. refl) w)
    by_test false e = spend-placed gap s w

-- ---- 3

pub expire-placed : (o : ℕ) (s : State) → Placed s → Placed (expire o s)
expire-placed o s w =
    act-placed (timer o s).kind (timer o s).object (timer o s).mask (alter_timer o expired s) (unmoved_placed refl refl refl w)

pub timer_leap-placed : (gap o : ℕ) (s : State) → Placed s → Placed (timer_leap gap o s)
unfolding timer_leap
timer_leap-placed gap o s w = by_test (eqb (timer o s).left gap)
  where
    by_test : (b : Bool) → Placed (cond b (expire o s) (alter_timer o (time_less gap) s))
    by_test true = expire-placed o s w
    by_test false = unmoved_placed refl refl refl w

-- ---- 4

pub run_out-placed : (i : ℕ) (s : State) → i < 16 → Placed s → Placed (run_out i s)
run_out-placed i s below w = wake-placed i (cond (sleeps i s) 1 2) s below w

pub limit_leap-placed : (gap i : ℕ) (s : State) → i < 16 → Placed s → Placed (limit_leap gap i s)
unfolding limit_leap
limit_leap-placed gap i s below w = by_test (eqb (thread i s).limit gap)
  where
    by_test : (b : Bool) → Placed (cond b (run_out i s) (alter_thread i (limit_less gap) s))
    by_test true = run_out-placed i s below w
    by_test false = alter-placed i (limit_less gap) s (λ t. refl) w
