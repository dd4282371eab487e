-- Many ticks at once where none is a wake-up: the counters that run are less by as many, and nothing else happens. The clock is kept out
-- of it, standing at 0, so that it is moved once for all ticks.
use Rattle.std.specs.Prelude.{Bool, cond, List, map, ℕ, ◌-◌}
use Rattle.sequences.specs.Lists.{alter}
use Rattle.model.specs.declared.tables.Thread.{Thread}
use Rattle.model.specs.declared.tables.Timer.{Timer}
use Rattle.model.specs.State.{State}
use Rattle.model.specs.Parts.{with_clock, with_threads, with_timers, with_left, with_limit, with_time}
use Rattle.model.specs.Tick.{quantum_counts, tick}

-- ---- what runs, less m

abbrev pub left_less : ℕ → Thread → Thread
left_less m t = with_left (t.left - m) t

abbrev pub limit_less : ℕ → Thread → Thread
limit_less m t = with_limit (t.limit - m) t

abbrev pub time_less : ℕ → Timer → Timer
time_less m t = with_time (t.left - m) t.count t

-- the threads with the quantum of the running one less m, where it counts
abbrev pub spent : Bool → ℕ → ℕ → List Thread → List Thread
spent counts m running ts = cond counts (alter running (left_less m) ts) ts

-- m ticks with no wake-up among them, at once, but for the clock: what runs is less by m, and what stands at 0 stays there
unfoldable pub skip : ℕ → State → State
skip m s =
    with_threads (map (limit_less m) (spent (quantum_counts s) m s.chosen s.threads))
    (with_timers (map (time_less m) s.timers) s)

-- ---- ticks without the clock

abbrev pub still : State → State
still s = with_clock 0 s

-- a tick that leaves the clock at 0
unfoldable pub still_tick : State → State
still_tick s = still (tick s)
