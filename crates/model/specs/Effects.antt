-- 01, Calls: the effect of each accepted call, in the order written there, told in the words of Words.antt. "Running" is the
-- chosen thread. The answer (0 or 10) is Calls.antt's matter; where a call may wait, both go by the same test.
use Rattle.std.specs.Prelude.{cond, List, [], ◌∷◌, ℕ, zero, suc, ◌+◌, ◌-◌, max, eqb, ltb}
use Rattle.std.specs.Int.Bits.{bit_and, bit_or}
use Rattle.sequences.specs.Lists.{only}
use Rattle.model.specs.declared.requests.Request.{Request}
use Rattle.model.specs.declared.tables.Thread.{Thread}
use Rattle.model.specs.declared.tables.Semaphore.{Semaphore}
use Rattle.model.specs.State.{State, absent_thread, stopped_list, semaphore_list, mutex_list, flags_list}
use Rattle.model.specs.Parts.{thread, mutex, flag_object, list, with_off, alter_thread, alter_semaphore, alter_mutex, alter_flags, alter_timer}
use Rattle.model.specs.Parts.{with_base, with_quantum, with_result, with_delivered, with_count, with_owner, with_word, with_time}
use Rattle.model.specs.Words.{leave, enter_tail, become_ready, start_to_wait, start_to_sleep, wake, take_priority, owns_any, holds}
use Rattle.model.specs.Calls.{kind_of, object_of, pend_waits, claim_waits, wait_waits}

-- ---- threads: 1 to 8

abbrev pub new_thread : ℕ → ℕ → Thread
new_thread priority quantum = record { created = 1; base = priority; current = priority; quantum = quantum; left = quantum; limit = 0; result = 0; mask = 0; mode = 0; delivered = 0 }

-- 1: last among the stopped
unfoldable pub create_thread_effect : Request → State → State
create_thread_effect q s = enter_tail stopped_list q.id (alter_thread q.id (λ t. new_thread q.a q.b) s)

-- 2: from the stopped list to its ready tail
unfoldable pub start_effect : Request → State → State
start_effect q s = become_ready q.id s

-- 3: from its ready list to the stopped tail
unfoldable pub stop_effect : Request → State → State
stop_effect q s = enter_tail stopped_list q.id (leave q.id s)

-- 4: the running thread becomes absent
unfoldable pub exit_effect : Request → State → State
exit_effect q s = alter_thread s.chosen (λ t. absent_thread) (leave s.chosen s)

-- 5: the running thread behind all others of its priority
unfoldable pub yield_effect : Request → State → State
yield_effect q s = become_ready s.chosen s

-- 6: the running thread sleeps for so many ticks
unfoldable pub sleep_effect : Request → State → State
sleep_effect q s = start_to_sleep s.chosen q.a s

-- what the current priority becomes by a new base: who owns a mutex doesn't fall by it
abbrev pub new_current : ℕ → ℕ → State → ℕ
new_current i base s = cond (owns_any i s) (max base (thread i s).current) base

-- 7: a new base, and what follows from it for the current priority
unfoldable pub set_priority_effect : Request → State → State
set_priority_effect q s = take_priority q.id (new_current q.id q.a s) (alter_thread q.id (with_base q.a) s)

-- 8: a new quantum, all of it left
unfoldable pub set_quantum_effect : Request → State → State
set_quantum_effect q s = alter_thread q.id (with_quantum q.a q.a) s

-- ---- semaphores: 9 to 11

-- 9: there from now on, with this count and maximum
unfoldable pub create_semaphore_effect : Request → State → State
create_semaphore_effect q s = alter_semaphore q.id (λ x. record { created = 1; count = q.a; maximum = q.b }) s

-- 10: a count above 0 is taken, else the running thread waits
unfoldable pub pend_effect : Request → State → State
pend_effect q s =
    cond (pend_waits q s)
    (start_to_wait (semaphore_list q.id) s.chosen q.a 0 0 s)
    (alter_thread s.chosen (with_result 1) (alter_semaphore q.id (λ x. with_count (x.count - 1) x) s))

-- one more, as far as the maximum
abbrev pub one_more : Semaphore → Semaphore
one_more x = cond (ltb x.count x.maximum) (with_count (x.count + 1) x) x

-- 11, and the action of a timer (01, One tick, 3): the first waiter is woken, and the count stays; with none the count goes up,
-- and at the maximum the post is lost, which call 11 has refused before
unfoldable pub post_to : ℕ → List ℕ → State → State
post_to o [] s = alter_semaphore o one_more s
post_to o (i ∷ l) s = wake i 1 s

unfoldable pub post_semaphore : ℕ → State → State
post_semaphore o s = post_to o (list (semaphore_list o) s) s

unfoldable pub post_effect : Request → State → State
post_effect q s = post_semaphore q.id s

-- ---- mutexes: 12 to 14

-- 12: there from now on, and nobody's
unfoldable pub create_mutex_effect : Request → State → State
create_mutex_effect q s = alter_mutex q.id (λ x. record { created = 1; owner = 0; depth = 0 }) s

-- the current priority of `from`, where it exceeds that of thread i, becomes that of thread i
unfoldable pub raise : ℕ → ℕ → State → State
raise i from s = take_priority i (max (thread i s).current (thread from s).current) s

-- 13: another's mutex is waited for, and its owner raised; else the running thread owns it, once more if it did already
unfoldable pub claim_effect : Request → State → State
claim_effect q s =
    cond (claim_waits q s)
    (raise (mutex q.id s).owner s.chosen (start_to_wait (mutex_list q.id) s.chosen q.a 0 0 s))
    (alter_thread s.chosen (with_result 1) (alter_mutex q.id (λ x. with_owner s.chosen (x.depth + 1) x) s))

-- the first waiter owns it with depth 1 and is woken; with none it is unowned
unfoldable pub hand_over : ℕ → List ℕ → State → State
hand_over o [] s = alter_mutex o (with_owner 0 0) s
hand_over o (i ∷ l) s = wake i 1 (alter_mutex o (with_owner i 1) s)

-- the current priority of thread i falls to its base
unfoldable pub fall : ℕ → State → State
fall i s = take_priority i (thread i s).base s

-- 14: one level less; with the last one the releaser falls to its base, and then the mutex changes hands
unfoldable pub release_effect : Request → State → State
release_effect q s =
    cond (eqb (mutex q.id s).depth 1)
    (hand_over q.id (list (mutex_list q.id) s) (fall s.chosen s))
    (alter_mutex q.id (λ x. with_owner x.owner (x.depth - 1) x) s)

-- ---- flag objects: 15 to 18

-- 15: there from now on, with this word
unfoldable pub create_flags_effect : Request → State → State
create_flags_effect q s = alter_flags q.id (λ x. record { created = 1; word = q.a }) s

-- 16: where the condition holds the whole word is delivered, else the running thread waits
unfoldable pub wait_effect : Request → State → State
wait_effect q s =
    cond (wait_waits q s)
    (start_to_wait (flags_list q.id) s.chosen q.c q.a q.b s)
    (alter_thread s.chosen (λ t. with_delivered (flag_object q.id s).word (with_result 1 t)) s)

-- each of these threads is woken, in order, and delivered the word
unfoldable pub wake_each : ℕ → List ℕ → State → State
wake_each word [] s = s
wake_each word (i ∷ l) s = wake_each word l (wake i 1 (alter_thread i (with_delivered word) s))

-- those of a wait list whose condition holds of the word
abbrev pub met : ℕ → List ℕ → State → List ℕ
met word l s = only (λ i. holds (thread i s).mode (thread i s).mask word) l

-- first the word changes, then those it concerns are woken as they stand in the list; that leaves the word alone
unfoldable pub change_word : ℕ → ℕ → State → State
change_word o word s = wake_each word (met word (list (flags_list o) s) s) (alter_flags o (with_word word) s)

-- 17, and the action of a timer
unfoldable pub set_flags : ℕ → ℕ → State → State
set_flags o mask s = change_word o (bit_or (flag_object o s).word mask) s

unfoldable pub set_effect : Request → State → State
set_effect q s = set_flags q.id q.a s

-- 18: the bits that word and mask share are taken away
unfoldable pub clear_effect : Request → State → State
clear_effect q s = change_word q.id ((flag_object q.id s).word - bit_and (flag_object q.id s).word q.a) s

-- ---- timers: 19 and 20

-- 19: everything anew but the count
unfoldable pub start_timer_effect : Request → State → State
start_timer_effect q s =
    alter_timer q.id (λ t. record { period = q.a; left = q.a; repeat = q.b; kind = kind_of q; object = object_of q; mask = q.d; count = t.count }) s

-- 20: nothing is left to run; all else stays as it was
unfoldable pub stop_timer_effect : Request → State → State
stop_timer_effect q s = alter_timer q.id (λ t. with_time 0 t.count t) s

-- the action of a timer: kind 1 posts, kind 2 sets flags, kind 0 does neither
unfoldable pub act : ℕ → ℕ → ℕ → State → State
act zero object mask s = s
act (suc zero) object mask s = post_semaphore object s
act (suc (suc kind)) object mask s = set_flags object mask s

-- ---- scheduling: 21

-- 21: asked for 0 it is off, asked for 1 it isn't
unfoldable pub scheduling_effect : Request → State → State
scheduling_effect q s = with_off (1 - q.a) s
