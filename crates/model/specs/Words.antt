-- 01, Calls, the rules under the table: where a thread stands, and the words of which every effect and every step of a tick is made.
-- A word changes only what its line says.
use Rattle.std.specs.Prelude.{Bool, cond, not, ◌&&◌, map, ℕ, zero, suc, eqb, ltb, drop, take}
use Rattle.std.specs.Int.Bits.{bit_and}
use Rattle.sequences.specs.Lists.{alter, insert_at, snoc, head_or, first_at, among, among_any, without, last_nonempty, some_below}
use Rattle.model.specs.State.{State, scheduling_on, nobody, mutex_count, flags_count, sleep_list, stopped_list, first_wait_list, flags_list}
use Rattle.model.specs.Parts.{thread, mutex, list, with_chosen, with_ready, with_waits, alter_thread}
use Rattle.model.specs.Parts.{with_current, with_wait, refilled}

-- ---- where a thread stands

abbrev pub is_ready : ℕ → State → Bool
is_ready i s = among_any i s.ready

abbrev pub sleeps : ℕ → State → Bool
sleeps i s = among i (list sleep_list s)

abbrev pub is_stopped : ℕ → State → Bool
is_stopped i s = among i (list stopped_list s)

-- on the wait list of a semaphore, a mutex or a flag object
abbrev pub is_waiting : ℕ → State → Bool
is_waiting i s = among_any i (drop first_wait_list s.waits)

abbrev pub awaits_flags : ℕ → State → Bool
awaits_flags i s = among_any i (take flags_count (drop (flags_list 0) s.waits))

-- the number of the list that it stands on, where that is no ready list
abbrev pub list_of : ℕ → State → ℕ
list_of i s = first_at (among i) s.waits

-- whether thread i owns mutex o, or any
abbrev pub owns : ℕ → ℕ → State → Bool
owns o i s = ltb 0 (mutex o s).depth && eqb (mutex o s).owner i

unfoldable pub owns_any : ℕ → State → Bool
owns_any i s = some_below mutex_count (λ o. owns o i s)

-- ---- leaving and entering lists

-- off the list that it stands on
unfoldable pub leave : ℕ → State → State
leave i s = with_ready (map (without i) s.ready) (with_waits (map (without i) s.waits) s)

unfoldable pub enter_tail : ℕ → ℕ → State → State
enter_tail j i s = with_waits (alter j (snoc i) s.waits) s

-- the tail of the ready list of its current priority
unfoldable pub enter_ready : ℕ → State → State
enter_ready i s = with_ready (alter (thread i s).current (snoc i) s.ready) s

-- 01, Calls, on entering a wait list: after everyone whose current priority is the same or higher. Wait lists never rise in
-- current priority, so that is the place of the first who has a lower one, or the end.
unfoldable pub rank : ℕ → ℕ → State → ℕ
rank j i s = first_at (λ x. ltb (thread x s).current (thread i s).current) (list j s)

unfoldable pub enter_by_priority : ℕ → ℕ → State → State
enter_by_priority j i s = with_waits (alter j (insert_at (rank j i s) i) s.waits) s

-- ---- ready, waiting, sleeping, awake

unfoldable pub become_ready : ℕ → State → State
become_ready i s = enter_ready i (leave i s)

-- 01, Calls, on the start of a wait or a sleep: no result yet; the limit that the call gives, or its ticks; for flags a mask and a mode
unfoldable pub suspend : ℕ → ℕ → ℕ → ℕ → State → State
suspend i limit mask mode s = leave i (alter_thread i (with_wait limit 0 mask mode) s)

unfoldable pub start_to_wait : ℕ → ℕ → ℕ → ℕ → ℕ → State → State
start_to_wait j i limit mask mode s = enter_by_priority j i (suspend i limit mask mode s)

unfoldable pub start_to_sleep : ℕ → ℕ → State → State
start_to_sleep i span s = enter_tail sleep_list i (suspend i span 0 0 s)

-- 01, Calls, on a woken thread: its ready tail; limit, mask and mode 0
unfoldable pub wake : ℕ → ℕ → State → State
wake i result s = become_ready i (alter_thread i (with_wait 0 result 0 0) s)

-- ---- priorities

-- 01, Calls, on a changed priority: who is ready goes behind all others of the new one, who waits is ranked anew, any other stays where
-- it is
unfoldable pub re_enter : ℕ → State → State
re_enter i s = cond (is_ready i s) (become_ready i s) (cond (is_waiting i s) (enter_by_priority (list_of i s) i (leave i s)) s)

-- the current priority becomes p; no change, no move
unfoldable pub take_priority : ℕ → ℕ → State → State
take_priority i p s = cond (eqb (thread i s).current p) s (re_enter i (alter_thread i (with_current p) s))

-- ---- conditions on a flag word

-- 01, Calls, the modes from 0 on: of the mask's bits one is set, all are set, one is clear, all are clear
abbrev pub holds : ℕ → ℕ → ℕ → Bool
holds zero mask word = not (eqb (bit_and word mask) 0)
holds (suc zero) mask word = eqb (bit_and word mask) mask
holds (suc (suc zero)) mask word = not (eqb (bit_and word mask) mask)
holds (suc (suc (suc m))) mask word = eqb (bit_and word mask) 0

-- ---- choosing

-- what the effects leave to be worked out before the choice; so far nothing
unfoldable pub settle : State → State
settle s = s

-- 01, The table, on the chosen thread: the head of the highest ready list that isn't empty
abbrev pub choice : State → ℕ
choice s = head_or (last_nonempty s.ready) nobody

-- 01, Calls, on choosing: only with scheduling on. Who wasn't chosen before has its quantum renewed; where the
-- choice is nobody there is no such thread, and nothing is renewed.
unfoldable pub choose : State → State
choose s =
    cond (scheduling_on s && not (eqb (choice s) s.chosen))
    (with_chosen (choice s) (alter_thread (choice s) refilled s))
    s
