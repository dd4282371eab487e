-- Whether a thread or an object is there: the model's tests of ids, over the arrays by themselves.
use Rattle.std.specs.Prelude.{Bool, true, ◌&&◌, List, ℕ, zero, suc, eqb, ltb, get_or}
use Rattle.model.specs.declared.tables.Thread.{Thread}
use Rattle.model.specs.declared.tables.Semaphore.{Semaphore}
use Rattle.model.specs.declared.tables.Mutex.{Mutex}
use Rattle.model.specs.declared.tables.Flags.{Flags}
use Rattle.model.specs.State.{thread_count, semaphore_count, mutex_count, flags_count, absent_thread, absent_semaphore, absent_mutex, absent_flags}

abbrev pub thread_there : List Thread → ℕ → Bool
thread_there threads i = ltb i thread_count && eqb (get_or threads i absent_thread).created 1

abbrev pub semaphore_there : List Semaphore → ℕ → Bool
semaphore_there semaphores o = ltb o semaphore_count && eqb (get_or semaphores o absent_semaphore).created 1

abbrev pub mutex_there : List Mutex → ℕ → Bool
mutex_there mutexes o = ltb o mutex_count && eqb (get_or mutexes o absent_mutex).created 1

abbrev pub flags_there : List Flags → ℕ → Bool
flags_there flags o = ltb o flags_count && eqb (get_or flags o absent_flags).created 1

-- what an action of this kind names
abbrev pub names_one_of : List Semaphore → List Flags → ℕ → ℕ → Bool
names_one_of semaphores flags zero object = true
names_one_of semaphores flags (suc zero) object = semaphore_there semaphores object
names_one_of semaphores flags (suc (suc zero)) object = flags_there flags object
names_one_of semaphores flags (suc (suc (suc kind))) object = true
