-- Ticks that differ from the model's in their steps, and what becomes of P7's waiter under each: its result tells them from the model's.
use Rattle.std.specs.Prelude.{Bool, ◌&&◌, List, [], ◌∷◌, ℕ, eqb}
use Rattle.sequences.specs.Lists.{every}
use Rattle.sequences.specs.Steps.{ticks}
use Rattle.model.specs.declared.requests.Request.{Request}
use Rattle.model.specs.State.{State}
use Rattle.model.specs.Parts.{thread}
use Rattle.model.specs.Words.{settle, choose}
use Rattle.model.specs.Tick.{clock_step, quantum_step, timer_step, limit_step, tick}
use Rattle.model.specs.Promises.{run}
use Rattle.examples.specs.Asking.{create_thread, start, create_semaphore, pend, start_timer}

-- P7 up to its ten ticks
abbrev p7_calls : List Request
p7_calls = create_thread 0 2 0 ∷ start 0 ∷ create_semaphore 0 0 1 ∷ start_timer 0 10 0 1 0 0 ∷ pend 0 10 ∷ []

-- what the waiter has after ten ticks of this kind
abbrev p7_result : (State → State) → ℕ
p7_result f = (thread 0 (ticks f 10 (run p7_calls))).result

-- limits before timers: the waiter has given up when the post comes
abbrev limits_first : State → State
limits_first s = choose (settle (timer_step (limit_step (quantum_step (clock_step s)))))

-- no timers
abbrev timers_left_out : State → State
timers_left_out s = choose (settle (limit_step (quantum_step (clock_step s))))

-- the model's tick gives 1, and each of these 2
unfoldable pub p7_tells_apart : Bool
p7_tells_apart = eqb (p7_result tick) 1 && every (λ (f : State → State). eqb (p7_result f) 2) (limits_first ∷ timers_left_out ∷ [])
