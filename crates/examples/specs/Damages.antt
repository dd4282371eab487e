-- 01, The table, on soundness: the busy table with one damage after another, each of which breaks one clause and no other. A test of
-- soundness that forgot the clause would let it pass.
use Rattle.std.specs.Prelude.{Bool, true, false, not, ◌&&◌, ◌||◌, List, [], ◌∷◌, ◌++◌, ℕ, eqb, length, take, get_or}
use Rattle.sequences.specs.Lists.{alter, snoc, only, every_below}
use Rattle.model.specs.declared.tables.Thread.{Thread}
use Rattle.model.specs.State.{State, nobody, fresh}
use Rattle.model.specs.Parts.{with_clock, with_off, with_chosen, with_timers, with_ready, alter_thread, alter_semaphore, alter_mutex, alter_flags, alter_timer}
use Rattle.model.specs.Parts.{with_base, with_current, with_quantum, with_left, with_limit, with_result, with_wait, with_delivered, with_count, with_owner, with_word, with_time}
use Rattle.model.specs.Words.{leave, enter_tail}
use Rattle.model.specs.Sound.{shaped, fields_in_range, each_on_one_list, absent_threads_zero, ready_by_priority, wait_lists_fall, currents_fit, awaited_semaphores_empty, counts_within_maximum, unowned_written_zero, awaited_mutexes_owned, owners_created, owners_wait_elsewhere, conditions_unmet, flag_waiters_masked, timers_within_period, unused_timers_zero, actions_fit, sleepers_limited, others_unlimited, others_maskless, waits_without_result, quanta_fit, absent_semaphores_zero, absent_mutexes_zero, absent_flags_zero, choice_fits, clauses}
use Rattle.examples.specs.Busy.{busy}

pub record Damage : Type 0 where
  pub clause : State → Bool
  pub table : State

infix 70 ◌broken-by◌
abbrev pub ◌broken-by◌ : (State → Bool) → State → Damage
c broken-by s = record { clause = c; table = s }

abbrev pub all_clauses : State → List Bool
all_clauses s = clauses s ++ choice_fits s ∷ []

-- its clause is broken, and no other
unfoldable pub breaks_only : Damage → Bool
breaks_only d = not (d.clause d.table) && eqb (length (only (λ b. not b) (all_clauses d.table))) 1

-- of these damages one breaks the clause at a place
abbrev pub broken_at : ℕ → List Damage → Bool
broken_at n [] = false
broken_at n (d ∷ ds) = not (get_or (all_clauses d.table) n true) || broken_at n ds

-- there is one for every clause
unfoldable pub break_each : List Damage → Bool
break_each ds = every_below (length (all_clauses busy)) (λ n. broken_at n ds)

-- ---- the damages

-- a thread moves from where it stands to the tail of a list
abbrev pub moved : ℕ → ℕ → State
moved i j = enter_tail j i (leave i busy)

abbrev pub created_as : ℕ → Thread → Thread
created_as x t = record { created = x; base = t.base; current = t.current; quantum = t.quantum; left = t.left; limit = t.limit; result = t.result; mask = t.mask; mode = t.mode; delivered = t.delivered }

-- timer 1, which is stopped, with another action
abbrev pub with_action : ℕ → ℕ → ℕ → State
with_action kind object mask = alter_timer 1 (λ t. record { period = t.period; left = t.left; repeat = t.repeat; kind = kind; object = object; mask = mask; count = t.count }) busy

-- timer 1 with another period and repeat
abbrev pub with_period : ℕ → ℕ → State
with_period period repeat = alter_timer 1 (λ t. record { period = period; left = t.left; repeat = repeat; kind = t.kind; object = t.object; mask = t.mask; count = t.count }) busy

abbrev pub with_semaphore : ℕ → ℕ → ℕ → ℕ → State
with_semaphore o created count maximum = alter_semaphore o (λ x. record { created = created; count = count; maximum = maximum }) busy

unfoldable pub damages : List Damage
damages =
    -- a timer too few, a ready list too many
    shaped broken-by with_timers (take 7 busy.timers) busy
    ∷ shaped broken-by with_ready (snoc [] busy.ready) busy
    -- numbers past their range, one after another
    ∷ fields_in_range broken-by with_clock 4294967296 busy
    ∷ fields_in_range broken-by with_off 2 busy
    ∷ fields_in_range broken-by enter_tail 1 7 (alter_thread 7 (created_as 2) busy)
    ∷ fields_in_range broken-by alter_thread 7 (λ t. with_base 8 (with_current 8 t)) busy
    ∷ fields_in_range broken-by alter_thread 7 (with_quantum 65536 1) busy
    ∷ fields_in_range broken-by alter_thread 6 (with_limit 4294967296) busy
    ∷ fields_in_range broken-by alter_thread 7 (with_result 3) busy
    ∷ fields_in_range broken-by alter_thread 5 (with_wait 50 0 65536 0) busy
    ∷ fields_in_range broken-by alter_thread 7 (with_delivered 65536) busy
    ∷ fields_in_range broken-by with_semaphore 7 2 0 1
    ∷ fields_in_range broken-by with_semaphore 1 1 2 65536
    ∷ fields_in_range broken-by with_semaphore 1 1 0 0
    ∷ fields_in_range broken-by alter_mutex 0 (with_owner 3 256) busy
    ∷ fields_in_range broken-by alter_mutex 3 (λ x. record { created = 2; owner = 0; depth = 0 }) busy
    ∷ fields_in_range broken-by alter_flags 0 (with_word 65536) busy
    ∷ fields_in_range broken-by alter_flags 3 (λ x. record { created = 2; word = 0 }) busy
    ∷ fields_in_range broken-by with_period 4294967296 0
    ∷ fields_in_range broken-by with_period 30 2
    ∷ fields_in_range broken-by alter_timer 1 (with_time 0 4294967296) busy
    ∷ fields_in_range broken-by enter_tail 1 16 busy
    ∷ fields_in_range broken-by with_ready (alter 0 (snoc 16) busy.ready) busy
    -- 7 twice on one list, on two, on none; an absent thread on one
    ∷ each_on_one_list broken-by enter_tail 1 7 busy
    ∷ each_on_one_list broken-by with_ready (alter 2 (snoc 7) busy.ready) busy
    ∷ each_on_one_list broken-by leave 7 busy
    ∷ each_on_one_list broken-by enter_tail 1 15 busy
    -- 15 is absent, and has a priority, a quantum, a result, something delivered
    ∷ absent_threads_zero broken-by alter_thread 15 (λ t. with_base 1 (with_current 1 t)) busy
    ∷ absent_threads_zero broken-by alter_thread 15 (with_quantum 1 1) busy
    ∷ absent_threads_zero broken-by alter_thread 15 (with_result 1) busy
    ∷ absent_threads_zero broken-by alter_thread 15 (with_delivered 1) busy
    -- 0 is on the ready list of another priority
    ∷ ready_by_priority broken-by with_ready (alter 2 (snoc 0) (leave 0 busy).ready) busy
    -- 8 waits before 2, who has a higher priority
    ∷ wait_lists_fall broken-by moved 2 2
    -- 7 owns nothing and has more than its base, or less
    ∷ currents_fit broken-by alter_thread 7 (with_current 5) busy
    ∷ currents_fit broken-by alter_thread 7 (with_current 1) busy
    -- there is a count, and two wait for it
    ∷ awaited_semaphores_empty broken-by alter_semaphore 0 (with_count 1) busy
    ∷ counts_within_maximum broken-by alter_semaphore 1 (with_count 3) busy
    -- nobody owns mutex 1, and an owner is written
    ∷ unowned_written_zero broken-by alter_mutex 1 (with_owner 5 0) busy
    -- 8 waits for mutex 1, which nobody owns, or which it owns itself
    ∷ awaited_mutexes_owned broken-by moved 8 11
    ∷ owners_wait_elsewhere broken-by alter_mutex 1 (with_owner 8 1) (moved 8 11)
    -- an absent thread owns mutex 1
    ∷ owners_created broken-by alter_mutex 1 (with_owner 14 1) busy
    -- the flag that 5 waits for is set; 5 waits for no flag at all
    ∷ conditions_unmet broken-by alter_flags 0 (with_word 1) busy
    ∷ flag_waiters_masked broken-by alter_thread 5 (with_wait 50 0 0 0) busy
    -- more left than a period
    ∷ timers_within_period broken-by alter_timer 0 (with_time 101 0) busy
    -- a timer never started has expired, or repeats
    ∷ unused_timers_zero broken-by alter_timer 7 (with_time 0 1) busy
    ∷ unused_timers_zero broken-by alter_timer 7 (λ t. record { period = 0; left = 0; repeat = 1; kind = 0; object = 0; mask = 0; count = 0 }) busy
    -- actions that call 19 refuses with 3, and with 4
    ∷ actions_fit broken-by with_action 1 5 0
    ∷ actions_fit broken-by with_action 1 8 0
    ∷ actions_fit broken-by with_action 2 1 1
    ∷ actions_fit broken-by with_action 3 0 0
    ∷ actions_fit broken-by with_action 0 1 0
    ∷ actions_fit broken-by with_action 0 0 1
    ∷ actions_fit broken-by with_action 1 0 1
    ∷ actions_fit broken-by with_action 2 0 0
    ∷ actions_fit broken-by with_action 2 0 65536
    -- 6 sleeps for ever
    ∷ sleepers_limited broken-by alter_thread 6 (with_limit 0) busy
    -- 7 is stopped, 0 is ready, and each has a limit
    ∷ others_unlimited broken-by alter_thread 7 (with_limit 4) busy
    ∷ others_unlimited broken-by alter_thread 0 (with_limit 4) busy
    -- 7 is stopped and has a mode, 8 waits for a semaphore and has a mask
    ∷ others_maskless broken-by alter_thread 7 (with_wait 0 0 0 1) busy
    ∷ others_maskless broken-by alter_thread 8 (with_wait 0 0 1 0) busy
    -- 6 sleeps, 2 waits, and each has a result already
    ∷ waits_without_result broken-by alter_thread 6 (with_result 1) busy
    ∷ waits_without_result broken-by alter_thread 2 (with_result 2) busy
    -- 0 has nothing left of its quantum, or more than it; 7 has something left of none
    ∷ quanta_fit broken-by alter_thread 0 (with_left 0) busy
    ∷ quanta_fit broken-by alter_thread 0 (with_left 6) busy
    ∷ quanta_fit broken-by alter_thread 7 (with_left 1) busy
    -- absent, and yet it has a maximum, a count, a waiter
    ∷ absent_semaphores_zero broken-by with_semaphore 7 0 0 1
    ∷ absent_semaphores_zero broken-by with_semaphore 7 0 1 1
    ∷ absent_semaphores_zero broken-by moved 8 9
    -- absent, and yet owned
    ∷ absent_mutexes_zero broken-by alter_mutex 3 (with_owner 7 1) busy
    -- absent, and yet a flag is set, or somebody waits
    ∷ absent_flags_zero broken-by alter_flags 3 (with_word 1) busy
    ∷ absent_flags_zero broken-by moved 5 17
    -- 3 is ready at the highest priority, and 0 is chosen, or nobody; with scheduling off, one who is stopped, one who waits
    ∷ choice_fits broken-by with_chosen 0 busy
    ∷ choice_fits broken-by with_chosen nobody busy
    ∷ choice_fits broken-by with_off 1 (with_chosen 7 busy)
    ∷ choice_fits broken-by with_off 1 (with_chosen 4 busy)
    ∷ []

-- ---- and what is sound

-- with scheduling off the choice may be late: another ready thread, or nobody
unfoldable pub undamaged : List State
undamaged = fresh ∷ busy ∷ with_off 1 (with_chosen 0 busy) ∷ with_off 1 (with_chosen nobody busy) ∷ []
