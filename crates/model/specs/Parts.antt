-- A part of the table read, and written with all others as they were. These are the only places where a record is written whole; no
-- rule of 01 stands here.
use Rattle.std.specs.Prelude.{List, [], ℕ, get_or}
use Rattle.sequences.specs.Lists.{alter}
use Rattle.model.specs.declared.tables.Thread.{Thread}
use Rattle.model.specs.declared.tables.Semaphore.{Semaphore}
use Rattle.model.specs.declared.tables.Mutex.{Mutex}
use Rattle.model.specs.declared.tables.Flags.{Flags}
use Rattle.model.specs.declared.tables.Timer.{Timer}
use Rattle.model.specs.State.{State, absent_thread, absent_semaphore, absent_mutex, absent_flags, unused_timer}

-- ---- reading a part

abbrev pub thread : ℕ → State → Thread
thread i s = get_or s.threads i absent_thread

abbrev pub semaphore : ℕ → State → Semaphore
semaphore o s = get_or s.semaphores o absent_semaphore

abbrev pub mutex : ℕ → State → Mutex
mutex o s = get_or s.mutexes o absent_mutex

abbrev pub flag_object : ℕ → State → Flags
flag_object o s = get_or s.flags o absent_flags

abbrev pub timer : ℕ → State → Timer
timer o s = get_or s.timers o unused_timer

abbrev pub ready_list : ℕ → State → List ℕ
ready_list p s = get_or s.ready p []

abbrev pub list : ℕ → State → List ℕ
list j s = get_or s.waits j []

-- ---- writing a part, all others as they were

abbrev pub with_clock : ℕ → State → State
with_clock x s = record { clock = x; off = s.off; chosen = s.chosen; threads = s.threads; semaphores = s.semaphores; mutexes = s.mutexes; flags = s.flags; timers = s.timers; ready = s.ready; waits = s.waits }

abbrev pub with_off : ℕ → State → State
with_off x s = record { clock = s.clock; off = x; chosen = s.chosen; threads = s.threads; semaphores = s.semaphores; mutexes = s.mutexes; flags = s.flags; timers = s.timers; ready = s.ready; waits = s.waits }

abbrev pub with_chosen : ℕ → State → State
with_chosen x s = record { clock = s.clock; off = s.off; chosen = x; threads = s.threads; semaphores = s.semaphores; mutexes = s.mutexes; flags = s.flags; timers = s.timers; ready = s.ready; waits = s.waits }

abbrev pub with_threads : List Thread → State → State
with_threads x s = record { clock = s.clock; off = s.off; chosen = s.chosen; threads = x; semaphores = s.semaphores; mutexes = s.mutexes; flags = s.flags; timers = s.timers; ready = s.ready; waits = s.waits }

abbrev pub with_semaphores : List Semaphore → State → State
with_semaphores x s = record { clock = s.clock; off = s.off; chosen = s.chosen; threads = s.threads; semaphores = x; mutexes = s.mutexes; flags = s.flags; timers = s.timers; ready = s.ready; waits = s.waits }

abbrev pub with_mutexes : List Mutex → State → State
with_mutexes x s = record { clock = s.clock; off = s.off; chosen = s.chosen; threads = s.threads; semaphores = s.semaphores; mutexes = x; flags = s.flags; timers = s.timers; ready = s.ready; waits = s.waits }

abbrev pub with_flags : List Flags → State → State
with_flags x s = record { clock = s.clock; off = s.off; chosen = s.chosen; threads = s.threads; semaphores = s.semaphores; mutexes = s.mutexes; flags = x; timers = s.timers; ready = s.ready; waits = s.waits }

abbrev pub with_timers : List Timer → State → State
with_timers x s = record { clock = s.clock; off = s.off; chosen = s.chosen; threads = s.threads; semaphores = s.semaphores; mutexes = s.mutexes; flags = s.flags; timers = x; ready = s.ready; waits = s.waits }

abbrev pub with_ready : List (List ℕ) → State → State
with_ready x s = record { clock = s.clock; off = s.off; chosen = s.chosen; threads = s.threads; semaphores = s.semaphores; mutexes = s.mutexes; flags = s.flags; timers = s.timers; ready = x; waits = s.waits }

abbrev pub with_waits : List (List ℕ) → State → State
with_waits x s = record { clock = s.clock; off = s.off; chosen = s.chosen; threads = s.threads; semaphores = s.semaphores; mutexes = s.mutexes; flags = s.flags; timers = s.timers; ready = s.ready; waits = x }

abbrev pub alter_thread : ℕ → (Thread → Thread) → State → State
alter_thread i g s = with_threads (alter i g s.threads) s

abbrev pub alter_semaphore : ℕ → (Semaphore → Semaphore) → State → State
alter_semaphore o g s = with_semaphores (alter o g s.semaphores) s

abbrev pub alter_mutex : ℕ → (Mutex → Mutex) → State → State
alter_mutex o g s = with_mutexes (alter o g s.mutexes) s

abbrev pub alter_flags : ℕ → (Flags → Flags) → State → State
alter_flags o g s = with_flags (alter o g s.flags) s

abbrev pub alter_timer : ℕ → (Timer → Timer) → State → State
alter_timer o g s = with_timers (alter o g s.timers) s

-- ---- the parts of a thread, of a semaphore, of a timer

abbrev pub with_base : ℕ → Thread → Thread
with_base p t = record { created = t.created; base = p; current = t.current; quantum = t.quantum; left = t.left; limit = t.limit; result = t.result; mask = t.mask; mode = t.mode; delivered = t.delivered }

abbrev pub with_current : ℕ → Thread → Thread
with_current p t = record { created = t.created; base = t.base; current = p; quantum = t.quantum; left = t.left; limit = t.limit; result = t.result; mask = t.mask; mode = t.mode; delivered = t.delivered }

abbrev pub with_quantum : ℕ → ℕ → Thread → Thread
with_quantum quantum left t = record { created = t.created; base = t.base; current = t.current; quantum = quantum; left = left; limit = t.limit; result = t.result; mask = t.mask; mode = t.mode; delivered = t.delivered }

-- what a wait, its end and a call that needn't wait write
abbrev pub with_wait : ℕ → ℕ → ℕ → ℕ → Thread → Thread
with_wait limit result mask mode t = record { created = t.created; base = t.base; current = t.current; quantum = t.quantum; left = t.left; limit = limit; result = result; mask = mask; mode = mode; delivered = t.delivered }

abbrev pub with_delivered : ℕ → Thread → Thread
with_delivered w t = record { created = t.created; base = t.base; current = t.current; quantum = t.quantum; left = t.left; limit = t.limit; result = t.result; mask = t.mask; mode = t.mode; delivered = w }

abbrev pub with_left : ℕ → Thread → Thread
with_left x t = with_quantum t.quantum x t

abbrev pub with_limit : ℕ → Thread → Thread
with_limit x t = with_wait x t.result t.mask t.mode t

abbrev pub with_result : ℕ → Thread → Thread
with_result x t = with_wait t.limit x t.mask t.mode t

-- the quantum left is the quantum again
abbrev pub refilled : Thread → Thread
refilled t = with_left t.quantum t

abbrev pub with_count : ℕ → Semaphore → Semaphore
with_count n x = record { created = x.created; count = n; maximum = x.maximum }

abbrev pub with_owner : ℕ → ℕ → Mutex → Mutex
with_owner owner depth x = record { created = x.created; owner = owner; depth = depth }

abbrev pub with_word : ℕ → Flags → Flags
with_word w x = record { created = x.created; word = w }

abbrev pub with_time : ℕ → ℕ → Timer → Timer
with_time left count t = record { period = t.period; left = left; repeat = t.repeat; kind = t.kind; object = t.object; mask = t.mask; count = count }
