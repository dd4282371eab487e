-- What counts down in a table, and the places of the nearest: of the timers and limits together, and of the running thread's quantum.
use Rattle.std.specs.Prelude.{◌≡◌, ℕ, ◌<◌, ◌≤◌, cond, List, map}
use Rattle.sequences.specs.Lists.{nearest, nearer}
use Rattle.model.specs.declared.tables.Thread.{Thread}
use Rattle.model.specs.declared.tables.Timer.{Timer}
use Rattle.model.specs.State.{State}
use Rattle.model.specs.Parts.{thread}
use Rattle.model.specs.Tick.{quantum_counts}
use Rattle.rules.specs.Counting.{never, place}

abbrev pub times : State → List ℕ
times s = map (λ (t : Timer). t.left) s.timers

abbrev pub limits : State → List ℕ
limits s = map (λ (t : Thread). t.limit) s.threads

-- the quantum of the running thread, 0 where it doesn't count
abbrev pub running : State → ℕ
running s = cond (quantum_counts s) (thread s.chosen s).left 0

abbrev pub nearest_counter : State → ℕ
nearest_counter s = nearer (nearest (times s)) (nearest (limits s))

-- its place, and that of the quantum's end
pub record Due (s : State) (p : ℕ) : Type 0 where
  pub fits : nearest_counter s ≤ never
  pub at : p ≡ place (nearest_counter s)

pub record Running (s : State) (p : ℕ) : Type 0 where
  pub fits : running s < never
  pub at : p ≡ place (running s)

pub record Foreseen (s : State) (p q : ℕ) : Type 0 where
  pub due : Due s p
  pub quantum : Running s q
