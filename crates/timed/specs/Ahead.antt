-- The tick in which a timer or a limit falls due, where those were told of no tick for some time: what the code may assume of the table before it,
-- and what becomes of the table in it.
use Rattle.std.specs.Prelude.{◌≡◌, ℕ, ◌-◌, ◌<◌, ◌≤◌, true}
use Rattle.sequences.specs.Steps.{in_order}
use Rattle.model.specs.State.{State, scheduling_on, thread_count, timer_count}
use Rattle.model.specs.Words.{choice, settle, choose}
use Rattle.rules.specs.Counting.{never}
use Rattle.theorems.specs.Leap.{quantum_leap, timer_leap, limit_leap}
use Rattle.timed.specs.Armed.{Armed}
use Rattle.timed.specs.Counters.{running, Running}
use Rattle.timed.specs.Limited.{Limited}

-- the table's choice is made, its actions name objects, who has a limit waits; and the quantum, whose end is at place q, doesn't end before the tick
-- at place p
pub record Falls (p q : ℕ) (s : State) : Type 0 where
  pub chosen : scheduling_on s ≡ true → choice s ≡ s.chosen
  pub armed : Armed s
  pub limited : Limited s
  pub quantum : Running s q
  pub first : p ≤ q
  pub comes : p < never

-- a table that is as it was but for the time: its choice is made, and the quantum whose end was at place q has come p + 1 ticks closer to it
pub record Unchanged (p q : ℕ) (s : State) : Type 0 where
  pub chosen : choose s ≡ s
  pub before : p < q
  pub some : q < never → running s ≡ q - p
  pub none : never ≤ q → running s ≡ 0

-- `gap` ticks at once for the running quantum and `ticks` for timers and limits, only the last of which can be a wake-up
unfoldable pub fall : ℕ → ℕ → State → State
fall gap ticks s = choose (settle (in_order thread_count (limit_leap ticks) (in_order timer_count (timer_leap ticks) (quantum_leap gap s))))
