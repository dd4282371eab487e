-- The whole test as its passes see it: the clauses of soundness, sorted by what they speak of.
use Rattle.std.specs.Prelude.{Bool, ◌&&◌, List, [], ◌∷◌, get_or}
use Rattle.sequences.specs.Lists.{every, every_below, all_true}
use Rattle.model.specs.declared.tables.Table.{Table}
use Rattle.model.specs.State.{State, list_count}
use Rattle.model.specs.Ranges.{is_bit}
use Rattle.model.specs.Sound.{thread_in_range, semaphore_in_range, mutex_in_range, flags_in_range, timer_in_range}
use Rattle.model.specs.Sound.{each_on_one_list, absent_threads_zero, ready_by_priority, wait_lists_fall, currents_fit, awaited_semaphores_empty, counts_within_maximum}
use Rattle.model.specs.Sound.{unowned_written_zero, awaited_mutexes_owned, owners_created, owners_wait_elsewhere, conditions_unmet, flag_waiters_masked}
use Rattle.model.specs.Sound.{timers_within_period, unused_timers_zero, actions_fit, sleepers_limited, others_unlimited, others_maskless, waits_without_result}
use Rattle.model.specs.Sound.{quanta_fit, absent_semaphores_zero, absent_mutexes_zero, absent_flags_zero}
use Rattle.model.specs.Before.{Rows, list_at}
use Rattle.soundness.specs.Lists.{list_fits, wait_list_fits}

-- every list as it is stored
abbrev pub ready_fits : Table → Rows → Bool
ready_fits t rows = every_below 8 (λ p. list_fits (get_or t.lengths p 0) (get_or rows p []))

abbrev pub waits_fit : Table → Bool
waits_fit t = every_below list_count (λ j. wait_list_fits (list_at t.waits j))

unfoldable pub lists_fit : Table → Rows → Bool
lists_fit t rows = ready_fits t rows && waits_fit t

-- what lists ask of the threads on them
abbrev pub member_clauses : State → List Bool
member_clauses s = ready_by_priority s ∷ wait_lists_fall s ∷ sleepers_limited s ∷ conditions_unmet s ∷ flag_waiters_masked s ∷ []

unfoldable pub members_fit : State → Bool
members_fit s = all_true (member_clauses s)

-- threads
abbrev pub thread_clauses : State → List Bool
thread_clauses s =
    every thread_in_range s.threads
    ∷ each_on_one_list s
    ∷ absent_threads_zero s
    ∷ currents_fit s
    ∷ others_unlimited s
    ∷ others_maskless s
    ∷ waits_without_result s
    ∷ quanta_fit s
    ∷ []

unfoldable pub threads_fit : State → Bool
threads_fit s = all_true (thread_clauses s)

-- scheduling, semaphores, mutexes, flag objects, timers
abbrev pub record_clauses : State → List Bool
record_clauses s =
    is_bit s.off
    ∷ every semaphore_in_range s.semaphores
    ∷ awaited_semaphores_empty s
    ∷ counts_within_maximum s
    ∷ absent_semaphores_zero s
    ∷ every mutex_in_range s.mutexes
    ∷ unowned_written_zero s
    ∷ awaited_mutexes_owned s
    ∷ owners_created s
    ∷ owners_wait_elsewhere s
    ∷ absent_mutexes_zero s
    ∷ every flags_in_range s.flags
    ∷ absent_flags_zero s
    ∷ every timer_in_range s.timers
    ∷ timers_within_period s
    ∷ unused_timers_zero s
    ∷ actions_fit s
    ∷ []

unfoldable pub records_fit : State → Bool
records_fit s = all_true (record_clauses s)
