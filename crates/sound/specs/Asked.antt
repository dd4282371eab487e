-- What the test asks, pass by pass, of an image whose links have been followed: of each thread, by the list that it was noted on; of the choice;
-- of each object and each timer. Each test has every clause of soundness that speaks of what it is about.
use Rattle.std.specs.Prelude.{Bool, cond, not, ◌&&◌, ◌||◌, List, ℕ, zero, suc, ◌+◌, ◌-◌, ◌<◌, ◌≤◌, eqb, leb, ltb, get_or}
use Rattle.model.specs.declared.tables.Thread.{Thread}
use Rattle.model.specs.declared.tables.Semaphore.{Semaphore}
use Rattle.model.specs.declared.tables.Mutex.{Mutex}
use Rattle.model.specs.declared.tables.Flags.{Flags}
use Rattle.model.specs.declared.tables.Timer.{Timer}
use Rattle.model.specs.State.{State, thread_count, priority_count, stopped_list, first_wait_list, semaphore_list, mutex_list, flags_list}
use Rattle.model.specs.Parts.{thread, semaphore, mutex, flag_object, timer}
use Rattle.model.specs.Ranges.{◌implies◌, is_bit, is_priority, names_object, action_in_range}
use Rattle.model.specs.Words.{owns_any, holds}
use Rattle.model.specs.Sound.{zero_thread, zero_timer, waited_for, choice_fits}
use Rattle.model.specs.Sound.{each_thread, each_semaphore, each_mutex, each_flags, each_timer}
use Rattle.model.specs.Layout.{view, linked_lists, links_first, lists_of}
use Rattle.fields.specs.Fields.{Sized}
use Rattle.links.specs.Noted.{Marked}

-- ---- threads

-- the links of thread i
abbrev pub next_link : ℕ → List ℕ → ℕ
next_link i b = get_or b (links_first + i) 0

abbrev pub previous_link : ℕ → List ℕ → ℕ
previous_link i b = get_or b (links_first + (thread_count + linked_lists) + i) 0

-- an image whose links have been followed: each thread has the mark of its list, and the previous link of who has one can be followed
pub record Followed (b marks : List ℕ) : Type 0 where
  pub size : Sized b
  pub marked : Marked thread_count (lists_of b) marks
  pub back : (i : ℕ) → i < thread_count → 0 < get_or marks i 0 → previous_link i b ≤ thread_count

-- on no list: all zero, and no links
unfoldable pub nothing_of : ℕ → List ℕ → Bool
nothing_of i b = zero_thread (thread i (view b)) && (eqb (next_link i b) 0 && eqb (previous_link i b) 0)

-- in its range, and above the base only for owners
unfoldable pub priority_fits : ℕ → State → Bool
priority_fits i s =
    is_priority (thread i s).current
    && (leb (thread i s).base (thread i s).current && (owns_any i s || eqb (thread i s).current (thread i s).base))

unfoldable pub quantum_fits : Thread → Bool
quantum_fits t = leb t.left t.quantum && (ltb 0 t.quantum implies ltb 0 t.left)

-- who doesn't wait for flags
abbrev pub unmasked : Thread → Bool
unmasked t = eqb t.mask 0 && eqb t.mode 0

-- who neither waits nor sleeps
unfoldable pub idle : Thread → Bool
idle t = eqb t.limit 0 && (leb t.result 2 && unmasked t)

unfoldable pub asleep : Thread → Bool
asleep t = ltb 0 t.limit && (unmasked t && eqb t.result 0)

-- who stands before it has no lower current priority
unfoldable pub behind_previous : ℕ → List ℕ → Bool
behind_previous i b =
    eqb (previous_link i b) 0 || leb (thread i (view b)).current (thread (previous_link i b - 1) (view b)).current

-- a mask, a mode, and a condition that isn't met
unfoldable pub awaits : ℕ → Thread → Bool
awaits word t = ltb 0 t.mask && (leb t.mode 3 && not (holds t.mode t.mask word))

-- on the wait list of an object, by its number among the lists that are no ready lists
unfoldable pub waits_right : ℕ → ℕ → List ℕ → Bool
waits_right j i b =
    behind_previous i b
    && (eqb (thread i (view b)).result 0
    && cond (ltb j (flags_list 0)) (unmasked (thread i (view b))) (awaits (flag_object (j - flags_list 0) (view b)).word (thread i (view b))))

unfoldable pub rests_right : ℕ → ℕ → List ℕ → Bool
rests_right j i b =
    cond (eqb j stopped_list) (idle (thread i (view b))) (cond (ltb j first_wait_list) (asleep (thread i (view b))) (waits_right j i b))

-- on list j of all lists, the ready lists first
unfoldable pub stands_right : ℕ → ℕ → List ℕ → Bool
stands_right j i b =
    eqb (thread i (view b)).created 1
    && (priority_fits i (view b)
    && (quantum_fits (thread i (view b))
    && cond (ltb j priority_count) (eqb (thread i (view b)).current j && idle (thread i (view b))) (rests_right (j - priority_count) i b)))

-- by its mark: 0, or one more than the number of its list
abbrev pub thread_asked : ℕ → ℕ → List ℕ → Bool
thread_asked zero i b = nothing_of i b
thread_asked (suc j) i b = stands_right j i b

unfoldable pub threads_asked : List ℕ → List ℕ → Bool
threads_asked marks b = each_thread (λ i. thread_asked (get_or marks i 0) i b)

-- ---- objects

unfoldable pub semaphore_asked : Semaphore → Bool → Bool
semaphore_asked x waited =
    cond (eqb x.created 0)
    (eqb x.count 0 && (eqb x.maximum 0 && not waited))
    (eqb x.created 1 && (ltb 0 x.maximum && (leb x.count x.maximum && (waited implies eqb x.count 0))))

-- an owner is there and waits elsewhere, as its mark tells
unfoldable pub owner_asked : ℕ → ℕ → ℕ → Bool
owner_asked o owner mark = ltb owner thread_count && (not (eqb mark 0) && not (eqb mark (suc (priority_count + mutex_list o))))

-- a mutex with its owner's mark
unfoldable pub mutex_asked : ℕ → Mutex → Bool → ℕ → Bool
mutex_asked o x waited mark =
    cond (eqb x.depth 0)
    (is_bit x.created && (eqb x.owner 0 && not waited))
    (eqb x.created 1 && owner_asked o x.owner mark)

unfoldable pub flags_asked : Flags → Bool → Bool
flags_asked x waited = cond (eqb x.created 0) (eqb x.word 0 && not waited) (eqb x.created 1)

-- whether it repeats, and its action
abbrev pub action_asked : Timer → State → Bool
action_asked t s = is_bit t.repeat && (action_in_range t.kind t.object t.mask && names_object t.kind t.object s)

unfoldable pub timer_asked : Timer → State → Bool
timer_asked t s = cond (eqb t.period 0) (zero_timer t) (leb t.left t.period && action_asked t s)

unfoldable pub semaphores_asked : State → Bool
semaphores_asked s = each_semaphore (λ o. semaphore_asked (semaphore o s) (waited_for (semaphore_list o) s))

unfoldable pub mutexes_asked : List ℕ → State → Bool
mutexes_asked marks s = each_mutex (λ o. mutex_asked o (mutex o s) (waited_for (mutex_list o) s) (get_or marks (mutex o s).owner 0))

unfoldable pub flag_objects_asked : State → Bool
flag_objects_asked s = each_flags (λ o. flags_asked (flag_object o s) (waited_for (flags_list o) s))

unfoldable pub timers_asked : State → Bool
timers_asked s = each_timer (λ o. timer_asked (timer o s) s)

unfoldable pub objects_asked : List ℕ → State → Bool
objects_asked marks s = semaphores_asked s && (mutexes_asked marks s && (flag_objects_asked s && timers_asked s))

-- ---- the whole, in the order of the passes

abbrev pub asked : List ℕ → List ℕ → Bool
asked marks b = threads_asked marks b && ((is_bit (view b).off && choice_fits (view b)) && objects_asked marks (view b))
