-- 01, The table: what it holds, as plain lists, and a fresh one. The records of threads, objects and timers are the structs of src/, so
-- that code and model speak of the same fields; how lists are stored is Layout.antt's matter.
use Rattle.std.specs.Prelude.{Bool, List, [], ℕ, ◌+◌, eqb, replicate}
use Rattle.model.specs.declared.tables.Thread.{Thread}
use Rattle.model.specs.declared.tables.Semaphore.{Semaphore}
use Rattle.model.specs.declared.tables.Mutex.{Mutex}
use Rattle.model.specs.declared.tables.Flags.{Flags}
use Rattle.model.specs.declared.tables.Timer.{Timer}

-- ---- how many there are of each, and how a list is named

abbrev pub thread_count : ℕ
thread_count = 16

abbrev pub priority_count : ℕ
priority_count = 8

abbrev pub semaphore_count : ℕ
semaphore_count = 8

abbrev pub mutex_count : ℕ
mutex_count = 4

abbrev pub flags_count : ℕ
flags_count = 4

abbrev pub timer_count : ℕ
timer_count = 8

-- the room of a list
abbrev pub places : ℕ
places = 16

-- every list but the ready lists has a number: the sleep list, the stopped list, then a wait list for each object
abbrev pub sleep_list : ℕ
sleep_list = 0

abbrev pub stopped_list : ℕ
stopped_list = 1

abbrev pub first_wait_list : ℕ
first_wait_list = 2

abbrev pub semaphore_list : ℕ → ℕ
semaphore_list o = 2 + o

abbrev pub mutex_list : ℕ → ℕ
mutex_list o = 10 + o

abbrev pub flags_list : ℕ → ℕ
flags_list o = 14 + o

abbrev pub list_count : ℕ
list_count = 18

-- 01, The table: how the choice of no thread is written
abbrev pub nobody : ℕ
nobody = 255

-- ---- the table

-- `off` is 0 while scheduling is on; `ready` has a list for each priority, the lowest first; `waits` has all others by number
pub record State : Type 0 where
  pub clock : ℕ
  pub off : ℕ
  pub chosen : ℕ
  pub threads : List Thread
  pub semaphores : List Semaphore
  pub mutexes : List Mutex
  pub flags : List Flags
  pub timers : List Timer
  pub ready : List (List ℕ)
  pub waits : List (List ℕ)

abbrev pub scheduling_on : State → Bool
scheduling_on s = eqb s.off 0

-- ---- what isn't there is all zero

abbrev pub absent_thread : Thread
absent_thread = record { created = 0; base = 0; current = 0; quantum = 0; left = 0; limit = 0; result = 0; mask = 0; mode = 0; delivered = 0 }

abbrev pub absent_semaphore : Semaphore
absent_semaphore = record { created = 0; count = 0; maximum = 0 }

abbrev pub absent_mutex : Mutex
absent_mutex = record { created = 0; owner = 0; depth = 0 }

abbrev pub absent_flags : Flags
absent_flags = record { created = 0; word = 0 }

abbrev pub unused_timer : Timer
unused_timer = record { period = 0; left = 0; repeat = 0; kind = 0; object = 0; mask = 0; count = 0 }

-- 01, The table, on a fresh one: nothing is created, every number is 0, every list empty; scheduling is on, and nobody is chosen
unfoldable pub fresh : State
fresh =
    record {
      clock = 0;
      off = 0;
      chosen = nobody;
      threads = replicate thread_count absent_thread;
      semaphores = replicate semaphore_count absent_semaphore;
      mutexes = replicate mutex_count absent_mutex;
      flags = replicate flags_count absent_flags;
      timers = replicate timer_count unused_timer;
      ready = replicate priority_count [];
      waits = replicate list_count [];
    }
