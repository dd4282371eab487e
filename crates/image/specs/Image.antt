-- The image of a table: docs/IMAGE.md as definitions, in its order. Each record is its fields one behind the other, numbers of more than a
-- byte low byte first. `image-of` writes a table with its ready rows, `table_of` and `rows_of` read them by offset.
use Rattle.std.specs.Prelude.{List, [], ◌∷◌, ◌++◌, ℕ, get_or, take, drop}
use Rattle.sequences.specs.Bytes.{two_bytes, four_bytes, two_at, four_at, flat, chunks, joined, part}
use Rattle.model.specs.declared.tables.Thread.{Thread}
use Rattle.model.specs.declared.tables.Semaphore.{Semaphore}
use Rattle.model.specs.declared.tables.Mutex.{Mutex}
use Rattle.model.specs.declared.tables.Flags.{Flags}
use Rattle.model.specs.declared.tables.Timer.{Timer}
use Rattle.model.specs.declared.tables.IdList.{IdList}
use Rattle.model.specs.declared.tables.Table.{Table}
use Rattle.model.specs.State.{list_count}
use Rattle.model.specs.Before.{Rows}

abbrev pub image_length : ℕ
image_length = 920

-- ---- a thread in 17 bytes

abbrev pub thread_bytes : Thread → List ℕ
thread_bytes t =
    t.created ∷ t.base ∷ t.current ∷ (two_bytes t.quantum ++ (two_bytes t.left ++ (four_bytes t.limit
    ++ (t.result ∷ (two_bytes t.mask ++ (t.mode ∷ two_bytes t.delivered))))))

abbrev pub thread_of : List ℕ → Thread
thread_of s =
    record {
      created = get_or s 0 0;
      base = get_or s 1 0;
      current = get_or s 2 0;
      quantum = two_at 3 s;
      left = two_at 5 s;
      limit = four_at 7 s;
      result = get_or s 11 0;
      mask = two_at 12 s;
      mode = get_or s 14 0;
      delivered = two_at 15 s;
    }

-- ---- a semaphore in 5, a mutex and a flag object in 3 each

abbrev pub semaphore_bytes : Semaphore → List ℕ
semaphore_bytes x = x.created ∷ (two_bytes x.count ++ two_bytes x.maximum)

abbrev pub semaphore_of : List ℕ → Semaphore
semaphore_of s = record { created = get_or s 0 0; count = two_at 1 s; maximum = two_at 3 s }

abbrev pub mutex_bytes : Mutex → List ℕ
mutex_bytes x = x.created ∷ x.owner ∷ x.depth ∷ []

abbrev pub mutex_of : List ℕ → Mutex
mutex_of s = record { created = get_or s 0 0; owner = get_or s 1 0; depth = get_or s 2 0 }

abbrev pub flags_bytes : Flags → List ℕ
flags_bytes x = x.created ∷ two_bytes x.word

abbrev pub flags_of : List ℕ → Flags
flags_of s = record { created = get_or s 0 0; word = two_at 1 s }

-- ---- a timer in 17

abbrev pub timer_bytes : Timer → List ℕ
timer_bytes t =
    four_bytes t.period ++ (four_bytes t.left ++ (t.repeat ∷ t.kind ∷ t.object ∷ (two_bytes t.mask ++ four_bytes t.count)))

abbrev pub timer_of : List ℕ → Timer
timer_of s =
    record {
      period = four_at 0 s;
      left = four_at 4 s;
      repeat = get_or s 8 0;
      kind = get_or s 9 0;
      object = get_or s 10 0;
      mask = two_at 11 s;
      count = four_at 13 s;
    }

-- ---- a list in 17, a ready row in 16

abbrev pub list_bytes : IdList → List ℕ
list_bytes l = l.length ∷ l.ids

abbrev pub list_of : List ℕ → IdList
list_of s = record { length = get_or s 0 0; ids = take 16 (drop 1 s) }

abbrev pub row_of : List ℕ → List ℕ
row_of s = s

-- ---- the whole

-- clock, scheduling and chosen; threads; semaphores, mutexes, flag objects; timers; lengths and ids of the ready lists; the other lists
abbrev pub parts : Table → Rows → List (List ℕ)
parts t rows =
    four_bytes t.clock
    ∷ (t.off ∷ t.chosen ∷ [])
    ∷ flat thread_bytes t.threads
    ∷ flat semaphore_bytes t.semaphores
    ∷ flat mutex_bytes t.mutexes
    ∷ flat flags_bytes t.flags
    ∷ flat timer_bytes t.timers
    ∷ t.lengths
    ∷ joined rows
    ∷ flat list_bytes t.waits
    ∷ []

unfoldable pub image_of : Table → Rows → List ℕ
image_of t rows = joined (parts t rows)

unfoldable pub table_of : List ℕ → Table
table_of s =
    record {
      clock = four_at 0 s;
      off = get_or s 4 0;
      chosen = get_or s 5 0;
      threads = chunks thread_of 17 16 (part 6 272 s);
      semaphores = chunks semaphore_of 5 8 (part 278 40 s);
      mutexes = chunks mutex_of 3 4 (part 318 12 s);
      flags = chunks flags_of 3 4 (part 330 12 s);
      timers = chunks timer_of 17 8 (part 342 136 s);
      lengths = part 478 8 s;
      waits = chunks list_of 17 list_count (part 614 306 s);
    }

unfoldable pub rows_of : List ℕ → Rows
rows_of s = chunks row_of 16 8 (part 486 128 s)
