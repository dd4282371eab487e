-- Soundness but for the choice, told by where threads stand: what is asked of a thread on each kind of list, and of each record by itself.
-- It says what `sound-but-choice` says, in the form in which words keep it. One thread may be aside: off all lists, as it is between
-- leaving one and entering another; `nobody` is aside where the table is whole.
use Rattle.std.specs.Prelude.{◌≡◌, Bool, true, false, ◌⊎◌, List, [], map, ℕ, ◌+◌, ◌<◌, ◌≤◌, length, get_or}
use Rattle.sequences.specs.Lists.{count, count_all, falls}
use Rattle.model.specs.declared.tables.Thread.{Thread}
use Rattle.model.specs.declared.tables.Semaphore.{Semaphore}
use Rattle.model.specs.declared.tables.Mutex.{Mutex}
use Rattle.model.specs.declared.tables.Flags.{Flags}
use Rattle.model.specs.declared.tables.Timer.{Timer}
use Rattle.model.specs.State.{State, scheduling_on, nobody, absent_semaphore, absent_mutex, absent_flags, unused_timer, priority_count, semaphore_count, mutex_count, flags_count, timer_count, sleep_list, stopped_list}
use Rattle.model.specs.Parts.{thread, semaphore, mutex, flag_object, list}
use Rattle.model.specs.Ranges.{is_bit, fits_32, action_in_range}
use Rattle.model.specs.Words.{owns_any, holds}
use Rattle.model.specs.Sound.{thread_in_range, semaphore_in_range, mutex_in_range, flags_in_range, timer_in_range, zero_thread, zero_timer}
use Rattle.placed.specs.Placed.{Placed, standing}

-- ---- a record by itself

pub record ThreadFits (t : Thread) : Type 0 where
  pub in_range : thread_in_range t ≡ true
  pub within : t.left ≤ t.quantum
  pub some_left : 0 < t.quantum → 0 < t.left
  pub absent : t.created ≡ 0 → zero_thread t ≡ true

pub record SemaphoreFits (x : Semaphore) : Type 0 where
  pub in_range : semaphore_in_range x ≡ true
  pub within : x.count ≤ x.maximum
  pub absent : x.created ≡ 0 → x.maximum ≡ 0

pub record MutexFits (x : Mutex) : Type 0 where
  pub in_range : mutex_in_range x ≡ true
  pub unowned : x.depth ≡ 0 → x.owner ≡ 0
  pub absent : x.created ≡ 0 → x.depth ≡ 0

pub record FlagsFits (x : Flags) : Type 0 where
  pub in_range : flags_in_range x ≡ true
  pub absent : x.created ≡ 0 → x.word ≡ 0

pub record TimerFits (t : Timer) : Type 0 where
  pub in_range : timer_in_range t ≡ true
  pub within : t.left ≤ t.period
  pub unused : t.period ≡ 0 → zero_timer t ≡ true
  pub action : action_in_range t.kind t.object t.mask ≡ true

-- ---- the objects and timers of a table, free of threads and lists

pub record Objects (ss : List Semaphore) (ms : List Mutex) (fs : List Flags) (ts : List Timer) : Type 0 where
  pub many_semaphores : length ss ≡ semaphore_count
  pub many_mutexes : length ms ≡ mutex_count
  pub many_flags : length fs ≡ flags_count
  pub many_timers : length ts ≡ timer_count
  pub semaphores : (o : ℕ) → SemaphoreFits (get_or ss o absent_semaphore)
  pub mutexes : (o : ℕ) → MutexFits (get_or ms o absent_mutex)
  pub flags : (o : ℕ) → FlagsFits (get_or fs o absent_flags)
  pub timers : (o : ℕ) → TimerFits (get_or ts o unused_timer)
  -- what a timer names is there
  pub posting : (o : ℕ) → (get_or ts o unused_timer).kind ≡ 1 → (get_or ss (get_or ts o unused_timer).object absent_semaphore).created ≡ 1
  pub setting : (o : ℕ) → (get_or ts o unused_timer).kind ≡ 2 → (get_or fs (get_or ts o unused_timer).object absent_flags).created ≡ 1

-- ---- a thread on a list

-- ready or stopped
pub record Idle (t : Thread) : Type 0 where
  pub limit : t.limit ≡ 0
  pub mask : t.mask ≡ 0
  pub mode : t.mode ≡ 0

pub record Sleeping (t : Thread) : Type 0 where
  pub limit : 0 < t.limit
  pub result : t.result ≡ 0
  pub mask : t.mask ≡ 0
  pub mode : t.mode ≡ 0

pub record Pending (t : Thread) (x : Semaphore) : Type 0 where
  pub result : t.result ≡ 0
  pub mask : t.mask ≡ 0
  pub mode : t.mode ≡ 0
  pub there : x.created ≡ 1
  pub empty : x.count ≡ 0

pub record Claiming (i : ℕ) (t : Thread) (x : Mutex) : Type 0 where
  pub result : t.result ≡ 0
  pub mask : t.mask ≡ 0
  pub mode : t.mode ≡ 0
  pub there : x.created ≡ 1
  pub owned : 0 < x.depth
  pub others : x.owner ≡ i → ⊥

pub record Awaiting (t : Thread) (x : Flags) : Type 0 where
  pub result : t.result ≡ 0
  pub mask : 0 < t.mask
  pub unmet : holds t.mode t.mask x.word ≡ false
  pub there : x.created ≡ 1

-- P of each thread on each of so many lists from the first of them on
abbrev pub Each : List (List ℕ) → ℕ → ℕ → (ℕ → ℕ → Type 0) → Type 0
Each lists first many P = (o x : ℕ) → o < many → 0 < count x (get_or lists (first + o) []) → P o x

-- ---- the whole

-- a current priority is never below the base, and above it only for owners
pub record Priorities (base current : ℕ) (owner : Bool) : Type 0 where
  pub least : base ≤ current
  pub owners : owner ≡ false → current ≡ base

abbrev pub CurrentFits : ℕ → Thread → State → Type 0
CurrentFits i t s = Priorities t.base t.current (owns_any i s)

pub record Lawful (aside : ℕ) (s : State) : Type 0 where
  pub clock : fits_32 s.clock ≡ true
  pub off : is_bit s.off ≡ true
  pub objects : Objects s.semaphores s.mutexes s.flags s.timers
  pub threads : (i : ℕ) → ThreadFits (thread i s)
  pub currents : (i : ℕ) → CurrentFits i (thread i s) s
  pub owners : (o : ℕ) → 0 < (mutex o s).depth → (thread (mutex o s).owner s).created ≡ 1
  -- where threads stand
  pub placed : Placed s
  pub once : (i : ℕ) → (i ≡ aside → ⊥) → standing i s ≡ (thread i s).created
  pub apart : standing aside s ≡ 0
  -- what lists ask
  pub falling : (j : ℕ) → 2 ≤ j → falls (map (λ x. (thread x s).current) (list j s)) ≡ true
  pub readies : Each s.ready 0 priority_count (λ p i. Idle (thread i s))
  pub sleepers : Each s.waits sleep_list 1 (λ o i. Sleeping (thread i s))
  pub stopped : Each s.waits stopped_list 1 (λ o i. Idle (thread i s))
  pub pending : Each s.waits 2 semaphore_count (λ o i. Pending (thread i s) (semaphore o s))
  pub claiming : Each s.waits 10 mutex_count (λ o i. Claiming i (thread i s) (mutex o s))
  pub awaiting : Each s.waits 14 flags_count (λ o i. Awaiting (thread i s) (flag_object o s))

-- ---- what an effect leaves to the choice

-- scheduling and the choice are as they were, and who was ready still is
pub record Keeps (s after : State) : Type 0 where
  pub off : after.off ≡ s.off
  pub chosen : after.chosen ≡ s.chosen
  pub ready : (i : ℕ) → 0 < count_all i s.ready → 0 < count_all i after.ready

-- the chosen thread is ready, or nobody is chosen
abbrev pub Stands : State → Type 0
Stands s = (s.chosen ≡ nobody) ⊎ (0 < count_all s.chosen s.ready)

-- a sound table, and one in which the choice is still to come: with scheduling off it stays, and must stand
pub record Steady (s : State) : Type 0 where
  pub lawful : Lawful nobody s
  pub stands : Stands s

pub record Unchosen (s : State) : Type 0 where
  pub lawful : Lawful nobody s
  pub stands : scheduling_on s ≡ false → Stands s

-- ---- what words ask

-- thread i with the record t may stand on wait list j
pub record Waiting (j i : ℕ) (t : Thread) (s : State) : Type 0 where
  pub pends : (o : ℕ) → o < semaphore_count → j ≡ 2 + o → Pending t (semaphore o s)
  pub claims : (o : ℕ) → o < mutex_count → j ≡ 10 + o → Claiming i t (mutex o s)
  pub awaits : (o : ℕ) → o < flags_count → j ≡ 14 + o → Awaiting t (flag_object o s)

-- the record of thread i may become t where it stands
pub record Stays (i : ℕ) (t : Thread) (s : State) : Type 0 where
  pub fits : ThreadFits t
  pub current : CurrentFits i t s
  pub created : t.created ≡ (thread i s).created
  pub mask : t.mask ≡ (thread i s).mask
  pub mode : t.mode ≡ (thread i s).mode
  pub unlimited : (thread i s).limit ≡ 0 → t.limit ≡ 0
  pub limited : 0 < (thread i s).limit → 0 < t.limit
  pub result : 0 < count_all i s.waits → (thread i s).result ≡ 0 → t.result ≡ 0
  pub level : 0 < count_all i s.ready → t.current ≡ (thread i s).current
  pub ranked : (j : ℕ) → 2 ≤ j → 0 < count i (list j s) → t.current ≡ (thread i s).current
