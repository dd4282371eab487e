-- So many ticks at once that only the last of them can be a wake-up: what runs is less by all of them, and what has just so many left runs
-- out. By one tick it is the model's tick, but for the clock, which is moved once for all ticks.
use Rattle.std.specs.Prelude.{cond, ◌&&◌, ℕ, eqb}
use Rattle.sequences.specs.Steps.{in_order}
use Rattle.model.specs.State.{State, thread_count, timer_count}
use Rattle.model.specs.Parts.{thread, timer, with_threads, alter_thread, alter_timer, refilled}
use Rattle.model.specs.Words.{sleeps, become_ready, wake, settle, choose}
use Rattle.model.specs.Effects.{act}
use Rattle.model.specs.Tick.{quantum_counts, expired}
use Rattle.theorems.specs.Skip.{limit_less, time_less, spent}

-- ---- 2

-- the quantum of the running thread is less by m, where it counts
unfoldable pub spend : ℕ → State → State
spend m s = with_threads (spent (quantum_counts s) m s.chosen s.threads) s

unfoldable pub quantum_leap : ℕ → State → State
quantum_leap gap s =
    cond (quantum_counts s && eqb (thread s.chosen s).left gap)
    (become_ready s.chosen (alter_thread s.chosen refilled s))
    (spend gap s)

-- ---- 3

-- timer o runs out: one expiry more, then its action
abbrev pub expire : ℕ → State → State
expire o s = act (timer o s).kind (timer o s).object (timer o s).mask (alter_timer o expired s)

unfoldable pub timer_leap : ℕ → ℕ → State → State
timer_leap gap o s = cond (eqb (timer o s).left gap) (expire o s) (alter_timer o (time_less gap) s)

-- ---- 4

-- the limit of thread i runs out: ready with result 2, a sleeper with 1
abbrev pub run_out : ℕ → State → State
run_out i s = wake i (cond (sleeps i s) 1 2) s

unfoldable pub limit_leap : ℕ → ℕ → State → State
limit_leap gap i s = cond (eqb (thread i s).limit gap) (run_out i s) (alter_thread i (limit_less gap) s)

-- ---- 5, and the whole

unfoldable pub leap : ℕ → State → State
leap gap s = choose (settle (in_order thread_count (limit_leap gap) (in_order timer_count (timer_leap gap) (quantum_leap gap s))))
