-- 01, The table, the paragraph on soundness: as far as plain lists can say it, a test for each of its clauses, in its order.
-- What only the layout can break is `orderly`: in Layout.antt links, in Before.antt zeros past a list's end.
use Rattle.std.specs.Prelude.{Bool, cond, not, ◌&&◌, ◌||◌, List, [], ◌∷◌, map, ℕ, ◌+◌, eqb, leb, ltb, length, drop}
use Rattle.sequences.specs.Lists.{among, count_all, every, every_below, all_true, all_zero, falls}
use Rattle.model.specs.declared.tables.Thread.{Thread}
use Rattle.model.specs.declared.tables.Semaphore.{Semaphore}
use Rattle.model.specs.declared.tables.Mutex.{Mutex}
use Rattle.model.specs.declared.tables.Flags.{Flags}
use Rattle.model.specs.declared.tables.Timer.{Timer}
use Rattle.model.specs.State.{State, scheduling_on, nobody, thread_count, priority_count, semaphore_count, mutex_count, flags_count, timer_count, list_count}
use Rattle.model.specs.State.{sleep_list, first_wait_list, semaphore_list, mutex_list, flags_list}
use Rattle.model.specs.Parts.{thread, semaphore, mutex, flag_object, timer, ready_list, list}
use Rattle.model.specs.Ranges.{◌implies◌, is_bit, is_priority, fits_16, fits_32, names_object, action_in_range}
use Rattle.model.specs.Words.{is_ready, sleeps, is_waiting, awaits_flags, owns_any, holds, choice}

-- ---- for every thread, priority, object

abbrev pub each_thread : (ℕ → Bool) → Bool
each_thread f = every_below thread_count f

abbrev pub each_priority : (ℕ → Bool) → Bool
each_priority f = every_below priority_count f

abbrev pub each_semaphore : (ℕ → Bool) → Bool
each_semaphore f = every_below semaphore_count f

abbrev pub each_mutex : (ℕ → Bool) → Bool
each_mutex f = every_below mutex_count f

abbrev pub each_flags : (ℕ → Bool) → Bool
each_flags f = every_below flags_count f

abbrev pub each_timer : (ℕ → Bool) → Bool
each_timer f = every_below timer_count f

abbrev pub waited_for : ℕ → State → Bool
waited_for j s = ltb 0 (length (list j s))

-- ---- every field in its range

-- there are as many of each as the table says
abbrev pub sizes : State → List Bool
sizes s =
    eqb (length s.threads) thread_count
    ∷ eqb (length s.semaphores) semaphore_count
    ∷ eqb (length s.mutexes) mutex_count
    ∷ eqb (length s.flags) flags_count
    ∷ eqb (length s.timers) timer_count
    ∷ eqb (length s.ready) priority_count
    ∷ eqb (length s.waits) list_count
    ∷ []

unfoldable pub shaped : State → Bool
shaped s = all_true (sizes s)

abbrev pub thread_ranges : Thread → List Bool
thread_ranges t =
    is_bit t.created
    ∷ is_priority t.base
    ∷ is_priority t.current
    ∷ fits_16 t.quantum
    ∷ fits_16 t.left
    ∷ fits_32 t.limit
    ∷ leb t.result 2
    ∷ fits_16 t.mask
    ∷ leb t.mode 3
    ∷ fits_16 t.delivered
    ∷ []

unfoldable pub thread_in_range : Thread → Bool
thread_in_range t = all_true (thread_ranges t)

-- a maximum of 0 is that of a semaphore not created
unfoldable pub semaphore_in_range : Semaphore → Bool
semaphore_in_range x = is_bit x.created && fits_16 x.count && fits_16 x.maximum && (eqb x.created 1 implies ltb 0 x.maximum)

unfoldable pub mutex_in_range : Mutex → Bool
mutex_in_range x = is_bit x.created && ltb x.owner thread_count && leb x.depth 255

unfoldable pub flags_in_range : Flags → Bool
flags_in_range x = is_bit x.created && fits_16 x.word

-- kind, object and mask have their ranges by the rules of call 19, below
unfoldable pub timer_in_range : Timer → Bool
timer_in_range t = fits_32 t.period && fits_32 t.left && is_bit t.repeat && fits_32 t.count

unfoldable pub ids_in_range : List ℕ → Bool
ids_in_range l = every (λ i. ltb i thread_count) l

abbrev pub field_ranges : State → List Bool
field_ranges s =
    fits_32 s.clock
    ∷ is_bit s.off
    ∷ every thread_in_range s.threads
    ∷ every semaphore_in_range s.semaphores
    ∷ every mutex_in_range s.mutexes
    ∷ every flags_in_range s.flags
    ∷ every timer_in_range s.timers
    ∷ every ids_in_range s.ready
    ∷ every ids_in_range s.waits
    ∷ []

unfoldable pub fields_in_range : State → Bool
fields_in_range s = all_true (field_ranges s)

-- ---- lists and priorities

-- a created thread on exactly one list, once; an absent one on none
unfoldable pub each_on_one_list : State → Bool
each_on_one_list s = each_thread (λ i. eqb (count_all i s.ready + count_all i s.waits) (thread i s).created)

abbrev pub thread_numbers : Thread → List ℕ
thread_numbers t = t.created ∷ t.base ∷ t.current ∷ t.quantum ∷ t.left ∷ t.limit ∷ t.result ∷ t.mask ∷ t.mode ∷ t.delivered ∷ []

abbrev pub zero_thread : Thread → Bool
zero_thread t = all_zero (thread_numbers t)

unfoldable pub absent_threads_zero : State → Bool
absent_threads_zero s = each_thread (λ i. eqb (thread i s).created 0 implies zero_thread (thread i s))

unfoldable pub ready_by_priority : State → Bool
ready_by_priority s = each_priority (λ p. every (λ i. eqb (thread i s).current p) (ready_list p s))

unfoldable pub wait_lists_fall : State → Bool
wait_lists_fall s = every (λ l. falls (map (λ i. (thread i s).current) l)) (drop first_wait_list s.waits)

-- never below the base, and above it only for owners
unfoldable pub currents_fit : State → Bool
currents_fit s = each_thread (λ i. leb (thread i s).base (thread i s).current && (owns_any i s || eqb (thread i s).current (thread i s).base))

-- ---- semaphores and mutexes

unfoldable pub awaited_semaphores_empty : State → Bool
awaited_semaphores_empty s = each_semaphore (λ o. waited_for (semaphore_list o) s implies eqb (semaphore o s).count 0)

unfoldable pub counts_within_maximum : State → Bool
counts_within_maximum s = each_semaphore (λ o. leb (semaphore o s).count (semaphore o s).maximum)

-- unowned exactly at depth 0: the owner is then written 0
unfoldable pub unowned_written_zero : State → Bool
unowned_written_zero s = each_mutex (λ o. eqb (mutex o s).depth 0 implies eqb (mutex o s).owner 0)

unfoldable pub awaited_mutexes_owned : State → Bool
awaited_mutexes_owned s = each_mutex (λ o. waited_for (mutex_list o) s implies ltb 0 (mutex o s).depth)

unfoldable pub owners_created : State → Bool
owners_created s = each_mutex (λ o. ltb 0 (mutex o s).depth implies eqb (thread (mutex o s).owner s).created 1)

unfoldable pub owners_wait_elsewhere : State → Bool
owners_wait_elsewhere s = each_mutex (λ o. ltb 0 (mutex o s).depth implies not (among (mutex o s).owner (list (mutex_list o) s)))

-- ---- flag objects

unfoldable pub conditions_unmet : State → Bool
conditions_unmet s = each_flags (λ o. every (λ i. not (holds (thread i s).mode (thread i s).mask (flag_object o s).word)) (list (flags_list o) s))

unfoldable pub flag_waiters_masked : State → Bool
flag_waiters_masked s = each_flags (λ o. every (λ i. ltb 0 (thread i s).mask && leb (thread i s).mode 3) (list (flags_list o) s))

-- ---- timers

unfoldable pub timers_within_period : State → Bool
timers_within_period s = each_timer (λ o. leb (timer o s).left (timer o s).period)

abbrev pub timer_numbers : Timer → List ℕ
timer_numbers t = t.period ∷ t.left ∷ t.repeat ∷ t.kind ∷ t.object ∷ t.mask ∷ t.count ∷ []

abbrev pub zero_timer : Timer → Bool
zero_timer t = all_zero (timer_numbers t)

unfoldable pub unused_timers_zero : State → Bool
unused_timers_zero s = each_timer (λ o. eqb (timer o s).period 0 implies zero_timer (timer o s))

unfoldable pub actions_fit : State → Bool
actions_fit s =
    each_timer (λ o. names_object (timer o s).kind (timer o s).object s && action_in_range (timer o s).kind (timer o s).object (timer o s).mask)

-- ---- limits, masks, results, quanta

unfoldable pub sleepers_limited : State → Bool
sleepers_limited s = every (λ i. ltb 0 (thread i s).limit) (list sleep_list s)

unfoldable pub others_unlimited : State → Bool
others_unlimited s = each_thread (λ i. not (is_waiting i s) && not (sleeps i s) implies eqb (thread i s).limit 0)

unfoldable pub others_maskless : State → Bool
others_maskless s = each_thread (λ i. not (awaits_flags i s) implies eqb (thread i s).mask 0 && eqb (thread i s).mode 0)

unfoldable pub waits_without_result : State → Bool
waits_without_result s = each_thread (λ i. is_waiting i s || sleeps i s implies eqb (thread i s).result 0)

-- above 0 it has 1 up to itself left, at 0 nothing
unfoldable pub quanta_fit : State → Bool
quanta_fit s = each_thread (λ i. leb (thread i s).left (thread i s).quantum && (ltb 0 (thread i s).quantum implies ltb 0 (thread i s).left))

-- ---- objects not created

unfoldable pub absent_semaphores_zero : State → Bool
absent_semaphores_zero s =
    each_semaphore (λ o. eqb (semaphore o s).created 0 implies
    all_zero ((semaphore o s).count ∷ (semaphore o s).maximum ∷ []) && not (waited_for (semaphore_list o) s))

unfoldable pub absent_mutexes_zero : State → Bool
absent_mutexes_zero s =
    each_mutex (λ o. eqb (mutex o s).created 0 implies
    all_zero ((mutex o s).owner ∷ (mutex o s).depth ∷ []) && not (waited_for (mutex_list o) s))

unfoldable pub absent_flags_zero : State → Bool
absent_flags_zero s =
    each_flags (λ o. eqb (flag_object o s).created 0 implies
    eqb (flag_object o s).word 0 && not (waited_for (flags_list o) s))

-- ---- the choice

-- with scheduling on the choice itself, which is nobody exactly where all ready lists are empty; off, a ready thread or nobody
unfoldable pub choice_fits : State → Bool
choice_fits s = cond (scheduling_on s) (eqb s.chosen (choice s)) (eqb s.chosen nobody || is_ready s.chosen s)

-- ---- all of it

-- in the order of the paragraph, but for the choice
unfoldable pub clauses : State → List Bool
clauses s =
    shaped s
    ∷ fields_in_range s
    ∷ each_on_one_list s
    ∷ absent_threads_zero s
    ∷ ready_by_priority s
    ∷ wait_lists_fall s
    ∷ currents_fit s
    ∷ awaited_semaphores_empty s
    ∷ counts_within_maximum s
    ∷ unowned_written_zero s
    ∷ awaited_mutexes_owned s
    ∷ owners_created s
    ∷ owners_wait_elsewhere s
    ∷ conditions_unmet s
    ∷ flag_waiters_masked s
    ∷ timers_within_period s
    ∷ unused_timers_zero s
    ∷ actions_fit s
    ∷ sleepers_limited s
    ∷ others_unlimited s
    ∷ others_maskless s
    ∷ waits_without_result s
    ∷ quanta_fit s
    ∷ absent_semaphores_zero s
    ∷ absent_mutexes_zero s
    ∷ absent_flags_zero s
    ∷ []

-- what an effect must keep; the choice comes after it
unfoldable pub sound_but_choice : State → Bool
sound_but_choice s = all_true (clauses s)

unfoldable pub sound : State → Bool
sound s = sound_but_choice s && choice_fits s
