-- 01, One tick: its five steps, and when a tick is a wake-up. Each step is told in the words of Words.antt; timers act by the effects of
-- the calls.
use Rattle.std.specs.Prelude.{Bool, cond, ◌&&◌, ◌||◌, ℕ, ◌+◌, ◌-◌, ◌%◌, ◌^◌, eqb, leb, ltb, length}
use Rattle.sequences.specs.Lists.{some_below}
use Rattle.sequences.specs.Steps.{in_order}
use Rattle.model.specs.declared.tables.Timer.{Timer}
use Rattle.model.specs.State.{State, scheduling_on, thread_count, timer_count}
use Rattle.model.specs.Parts.{thread, timer, ready_list, with_clock, alter_thread, alter_timer, with_left, with_limit, refilled, with_time}
use Rattle.model.specs.Words.{sleeps, become_ready, wake, settle, choose}
use Rattle.model.specs.Effects.{act}

-- 01, The table, on the clock and the expiry counts: 32 bits, and 0 follows the greatest
abbrev pub wrap : ℕ → ℕ
wrap n = n % 2 ^ 32

-- ---- 1

unfoldable pub clock_step : State → State
clock_step s = with_clock (wrap (s.clock + 1)) s

-- ---- 2

-- scheduling is on, the running thread has a quantum, and it shares its ready list
unfoldable pub quantum_counts : State → Bool
quantum_counts s =
    scheduling_on s && ltb 0 (thread s.chosen s).quantum && leb 2 (length (ready_list (thread s.chosen s).current s))

-- the quantum's last tick: it counts, and 1 is left
unfoldable pub quantum_ends : State → Bool
quantum_ends s = quantum_counts s && eqb (thread s.chosen s).left 1

-- with nothing left the running thread lets the others of its list go first, its quantum renewed
unfoldable pub quantum_step : State → State
quantum_step s =
    cond (quantum_ends s)
    (become_ready s.chosen (alter_thread s.chosen refilled s))
    (cond (quantum_counts s) (alter_thread s.chosen (λ t. with_left (t.left - 1) t) s) s)

-- ---- 3

-- one expiry more; a repeating timer starts anew
abbrev pub expired : Timer → Timer
expired t = with_time (cond (eqb t.repeat 1) t.period 0) (wrap (t.count + 1)) t

-- less one; at 0 it expires, and then its action follows. A timer that doesn't run stays at 0.
unfoldable pub timer_tick : ℕ → State → State
timer_tick o s =
    cond (eqb (timer o s).left 1)
    (act (timer o s).kind (timer o s).object (timer o s).mask (alter_timer o expired s))
    (alter_timer o (λ t. with_time (t.left - 1) t.count t) s)

unfoldable pub timer_step : State → State
timer_step s = in_order timer_count timer_tick s

-- ---- 4

-- less one; at 0 ready with result 2, a sleeper with 1. Only who waits or sleeps has a limit above 0 (soundness), and a limit of 0
-- stays 0.
unfoldable pub limit_tick : ℕ → State → State
limit_tick i s =
    cond (eqb (thread i s).limit 1)
    (wake i (cond (sleeps i s) 1 2) s)
    (alter_thread i (λ t. with_limit (t.limit - 1) t) s)

unfoldable pub limit_step : State → State
limit_step s = in_order thread_count limit_tick s

-- ---- 5, and the whole

-- as the table stands when the limits' turn comes
unfoldable pub before_limits : State → State
before_limits s = timer_step (quantum_step (clock_step s))

unfoldable pub tick : State → State
tick s = choose (settle (limit_step (before_limits s)))

-- ---- 01, One tick, on wake-ups

unfoldable pub timer_ends : State → Bool
timer_ends s = some_below timer_count (λ o. eqb (timer o s).left 1)

unfoldable pub limit_ends : State → Bool
limit_ends s = some_below thread_count (λ i. eqb (thread i s).limit 1)

-- the coming tick is a wake-up: a quantum, a timer or a limit runs out in it
unfoldable pub wakes : State → Bool
wakes s = quantum_ends s || timer_ends s || limit_ends (before_limits s)
