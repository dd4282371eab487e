-- Ticks that have passed and that timers and limits weren't told of yet: a table that owes them is the one in which every such counter is less by as
-- many. Turns of threads go by neither, so that they can be taken one after another while counters stand still.
use Rattle.std.specs.Prelude.{ℕ, map}
use Rattle.model.specs.State.{State}
use Rattle.model.specs.Parts.{with_threads, with_timers}
use Rattle.theorems.specs.Skip.{limit_less, time_less}

unfoldable pub owed_times : ℕ → State → State
owed_times m s = with_timers (map (time_less m) s.timers) s

unfoldable pub owed_limits : ℕ → State → State
owed_limits m s = with_threads (map (limit_less m) s.threads) s

unfoldable pub owed : ℕ → State → State
owed m s = owed_limits m (owed_times m s)
