-- The clauses of soundness, sorted by the pass that asks them; the shape, the clock and the ids in lists no pass has to ask.
use mathlib.Core.Bool.{Bool}
use mathlib.Core.List.{List, [], ◌∷◌}
use Rattle.sequences.specs.Lists.{every}
use Rattle.model.specs.State.{State}
use Rattle.model.specs.Sound.{thread_in_range, semaphore_in_range, mutex_in_range, flags_in_range, timer_in_range}
use Rattle.model.specs.Sound.{each_on_one_list, absent_threads_zero, ready_by_priority, wait_lists_fall, currents_fit, awaited_semaphores_empty, counts_within_maximum}
use Rattle.model.specs.Sound.{unowned_written_zero, awaited_mutexes_owned, owners_created, owners_wait_elsewhere, conditions_unmet, flag_waiters_masked}
use Rattle.model.specs.Sound.{timers_within_period, unused_timers_zero, actions_fit, sleepers_limited, others_unlimited, others_maskless, waits_without_result}
use Rattle.model.specs.Sound.{quanta_fit, absent_semaphores_zero, absent_mutexes_zero, absent_flags_zero}

abbrev pub thread_clauses : State → List Bool
thread_clauses s =
    every thread_in_range s.threads
    ∷ each_on_one_list s
    ∷ absent_threads_zero s
    ∷ ready_by_priority s
    ∷ wait_lists_fall s
    ∷ currents_fit s
    ∷ conditions_unmet s
    ∷ flag_waiters_masked s
    ∷ sleepers_limited s
    ∷ others_unlimited s
    ∷ others_maskless s
    ∷ waits_without_result s
    ∷ quanta_fit s
    ∷ []

abbrev pub semaphore-clauses : State → List Bool
semaphore-clauses s = every semaphore_in_range s.semaphores ∷ awaited_semaphores_empty s ∷ counts_within_maximum s ∷ absent_semaphores_zero s ∷ []

abbrev pub mutex-clauses : State → List Bool
mutex-clauses s =
    every mutex_in_range s.mutexes
    ∷ unowned_written_zero s
    ∷ awaited_mutexes_owned s
    ∷ owners_created s
    ∷ owners_wait_elsewhere s
    ∷ absent_mutexes_zero s
    ∷ []

abbrev pub flags-clauses : State → List Bool
flags-clauses s = every flags_in_range s.flags ∷ absent_flags_zero s ∷ []

abbrev pub timer-clauses : State → List Bool
timer-clauses s = every timer_in_range s.timers ∷ timers_within_period s ∷ unused_timers_zero s ∷ actions_fit s ∷ []
