-- What the soundness test asks of one record, beside what lists ask: each test has every clause of soundness that speaks of the record.
use Rattle.std.specs.Prelude.{Bool, not, ◌&&◌, ◌||◌, [], ◌∷◌, ℕ, eqb, leb, ltb}
use Rattle.sequences.specs.Lists.{all_true, all_zero}
use Rattle.model.specs.declared.tables.Thread.{Thread}
use Rattle.model.specs.declared.tables.Semaphore.{Semaphore}
use Rattle.model.specs.declared.tables.Mutex.{Mutex}
use Rattle.model.specs.declared.tables.Flags.{Flags}
use Rattle.model.specs.declared.tables.Timer.{Timer}
use Rattle.model.specs.Ranges.{◌implies◌, action_in_range}
use Rattle.model.specs.Sound.{thread_in_range, semaphore_in_range, mutex_in_range, flags_in_range, timer_in_range, zero_thread, zero_timer}

-- a thread: on how many lists it stands, on how many of them it waits or sleeps, on how many flag objects' lists; whether it owns a mutex
unfoldable pub thread_fits : Thread → ℕ → ℕ → ℕ → Bool → Bool
thread_fits t standing resting flagged owner =
    all_true
    (thread_in_range t
    ∷ eqb standing t.created
    ∷ (eqb t.created 0 implies zero_thread t)
    ∷ (leb t.base t.current && (owner || eqb t.current t.base))
    ∷ (eqb resting 0 implies eqb t.limit 0)
    ∷ (eqb flagged 0 implies eqb t.mask 0 && eqb t.mode 0)
    ∷ (ltb 0 resting implies eqb t.result 0)
    ∷ (leb t.left t.quantum && (ltb 0 t.quantum implies ltb 0 t.left))
    ∷ [])

-- a semaphore, and how many wait for it
unfoldable pub semaphore_fits : Semaphore → ℕ → Bool
semaphore_fits x waiters =
    all_true
    (semaphore_in_range x
    ∷ (ltb 0 waiters implies eqb x.count 0)
    ∷ leb x.count x.maximum
    ∷ (eqb x.created 0 implies all_zero (x.count ∷ x.maximum ∷ []) && not (ltb 0 waiters))
    ∷ [])

-- a mutex, its owner's record, how many wait for it, and whether its owner is among them
unfoldable pub mutex_fits : Mutex → Thread → ℕ → Bool → Bool
mutex_fits x owner waiters own-waiter =
    all_true
    (mutex_in_range x
    ∷ (eqb x.depth 0 implies eqb x.owner 0)
    ∷ (ltb 0 waiters implies ltb 0 x.depth)
    ∷ (ltb 0 x.depth implies eqb owner.created 1)
    ∷ (ltb 0 x.depth implies not own-waiter)
    ∷ (eqb x.created 0 implies all_zero (x.owner ∷ x.depth ∷ []) && not (ltb 0 waiters))
    ∷ [])

-- a flag object, and how many wait for it
unfoldable pub flags_fit : Flags → ℕ → Bool
flags_fit x waiters =
    all_true
    (flags_in_range x
    ∷ (eqb x.created 0 implies eqb x.word 0 && not (ltb 0 waiters))
    ∷ [])

-- a timer, and whether what it names is there
unfoldable pub timer_fits : Timer → Bool → Bool
timer_fits t named =
    all_true
    (timer_in_range t
    ∷ leb t.left t.period
    ∷ (eqb t.period 0 implies zero_timer t)
    ∷ (named && action_in_range t.kind t.object t.mask)
    ∷ [])
