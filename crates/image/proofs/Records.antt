-- Each kind of record: read from its bytes it is the record again where its fields fit, and the bytes of what was read are the bytes
-- again. A number comes back by its digits, a list of bytes place by place.
use mathlib.Core.Path.{◌≡◌, refl, ap}
use mathlib.Core.List.{List, [], ◌∷◌}
use Prim.Native.Nat.{ℕ, suc}
use native.Mathlib.Omega.{arith}
use lib.ListN.{length}
use lib.Seq.{take_all}
use Rattle.sequences.specs.Bytes.{Bytes}
use Rattle.sequences.proofs.Numbers.{two_back, four_back, spelled_out}
use Rattle.sequences.proofs.Numbers.{first_of_two, second-of_two, first_of_four, second-of_four, third-of_four, fourth_of_four}
use Rattle.sequences.proofs.Codecs.{Codec, bytes_coded}
use Rattle.model.specs.declared.tables.Thread.{Thread}
use Rattle.model.specs.declared.tables.Semaphore.{Semaphore}
use Rattle.model.specs.declared.tables.Mutex.{Mutex}
use Rattle.model.specs.declared.tables.Flags.{Flags}
use Rattle.model.specs.declared.tables.Timer.{Timer}
use Rattle.model.specs.declared.tables.IdList.{IdList}
use Rattle.image.specs.Image.{thread_bytes, thread_of, semaphore_bytes, semaphore_of, mutex_bytes, mutex_of, flags_bytes, flags_of}
use Rattle.image.specs.Image.{timer_bytes, timer_of, list_bytes, list_of, row_of}
use Rattle.image.proofs.Fits.{ThreadFits, SemaphoreFits, MutexFits, FlagsFits, TimerFits, ListFits, RowFits}

-- ---- what was written is read back

pub thread-same : (t : Thread) → ThreadFits t → thread_of (thread_bytes t) ≡ t
thread-same t o =
    rw (
      two_back t.quantum o.quantum,
      two_back t.left o.left,
      four_back t.limit o.limit,
      two_back t.mask o.mask,
      two_back t.delivered o.delivered,
    )

pub semaphore-same : (x : Semaphore) → SemaphoreFits x → semaphore_of (semaphore_bytes x) ≡ x
semaphore-same x o = rw (two_back x.count o.count, two_back x.maximum o.maximum)

pub mutex-same : (x : Mutex) → MutexFits x → mutex_of (mutex_bytes x) ≡ x
mutex-same x o = refl

pub flags-same : (x : Flags) → FlagsFits x → flags_of (flags_bytes x) ≡ x
flags-same x o = rw (two_back x.word o.word)

pub timer-same : (t : Timer) → TimerFits t → timer_of (timer_bytes t) ≡ t
timer-same t o =
    rw (four_back t.period o.period, four_back t.left o.left, two_back t.mask o.mask, four_back t.count o.count)

pub list_same : (l : IdList) → ListFits l → list_of (list_bytes l) ≡ l
list_same l o = rw (take_all 16 l.ids (omega (arith, o.ids.many)))

-- ---- what was read is written back

pub thread-back : (s : List ℕ) → length s ≡ 17 → Bytes s → thread_bytes (thread_of s) ≡ s
thread-back s l o =
    simp (first_of_two s o, second-of_two s o, first_of_four s o, second-of_four s o, third-of_four s o, fourth_of_four s o) (spelled_out 17 0 s l)

pub semaphore-back : (s : List ℕ) → length s ≡ 5 → Bytes s → semaphore_bytes (semaphore_of s) ≡ s
semaphore-back s l o = simp (first_of_two s o, second-of_two s o) (spelled_out 5 0 s l)

pub mutex-back : (s : List ℕ) → length s ≡ 3 → Bytes s → mutex_bytes (mutex_of s) ≡ s
mutex-back s l o = spelled_out 3 0 s l

pub flags-back : (s : List ℕ) → length s ≡ 3 → Bytes s → flags_bytes (flags_of s) ≡ s
flags-back s l o = simp (first_of_two s o, second-of_two s o) (spelled_out 3 0 s l)

pub timer-back : (s : List ℕ) → length s ≡ 17 → Bytes s → timer_bytes (timer_of s) ≡ s
timer-back s l o =
    simp (first_of_two s o, second-of_two s o, first_of_four s o, second-of_four s o, third-of_four s o, fourth_of_four s o) (spelled_out 17 0 s l)

pub list_back : (s : List ℕ) → length s ≡ 17 → Bytes s → list_bytes (list_of s) ≡ s
list_back [] l o = absurd (omega arith)
list_back (x ∷ s) l o = ap (λ (r : List ℕ). x ∷ r) (take_all 16 s (omega arith))

pub list-wide : (l : IdList) → ListFits l → length (list_bytes l) ≡ 17
list-wide l o = ap suc o.ids.many

-- ---- all of it, for each kind

pub threads_coded : Codec 17 ThreadFits thread_bytes thread_of
threads_coded = record { wide = λ t o. refl; bytes = λ t o. omega arith; same = thread-same; back = thread-back }

pub semaphores_coded : Codec 5 SemaphoreFits semaphore_bytes semaphore_of
semaphores_coded = record { wide = λ x o. refl; bytes = λ x o. omega arith; same = semaphore-same; back = semaphore-back }

pub mutexes_coded : Codec 3 MutexFits mutex_bytes mutex_of
mutexes_coded = record { wide = λ x o. refl; bytes = λ x o. omega arith; same = mutex-same; back = mutex-back }

pub flags_coded : Codec 3 FlagsFits flags_bytes flags_of
flags_coded = record { wide = λ x o. refl; bytes = λ x o. omega arith; same = flags-same; back = flags-back }

pub timers_coded : Codec 17 TimerFits timer_bytes timer_of
timers_coded = record { wide = λ t o. refl; bytes = λ t o. omega arith; same = timer-same; back = timer-back }

pub lists_coded : Codec 17 ListFits list_bytes list_of
lists_coded = record { wide = list-wide; bytes = λ l o. (o.length, o.ids.each); same = list_same; back = list_back }

-- a ready row is its own bytes
pub rows_coded : Codec 16 RowFits row_of row_of
rows_coded = bytes_coded 16
