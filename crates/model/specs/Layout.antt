-- The table is its image: the parts of the image and where each lies (docs/IMAGE.md), the state that is read off the bytes, the bytes in which
-- a state is laid out, and what only the layout can break. `sound-image` is the whole of 01's soundness for a table as it is kept. No other
-- file of the model knows bytes.
use Rattle.std.specs.Prelude.{Bool, ◌&&◌, List, [], ◌∷◌, ◌++◌, ℕ, ◌+◌, eqb, length, get_or, take, drop}
use Rattle.sequences.specs.Bytes.{joined, part}
use Rattle.sequences.specs.Records.{Place, end, all, total, reads, lays, bytes_of_all}
use Rattle.sequences.specs.Links.{lists_in, links_of, orderly_links}
use Rattle.model.specs.declared.tables.Thread.{Thread}
use Rattle.model.specs.declared.tables.Semaphore.{Semaphore}
use Rattle.model.specs.declared.tables.Mutex.{Mutex}
use Rattle.model.specs.declared.tables.Flags.{Flags}
use Rattle.model.specs.declared.tables.Timer.{Timer}
use Rattle.model.specs.State.{State, thread_count, priority_count, semaphore_count, mutex_count, flags_count, timer_count, list_count}
use Rattle.model.specs.Sound.{timer_numbers, sound}

-- ---- the parts, each of which starts where the one before it ends

-- the head: clock, scheduling, chosen
abbrev pub head_widths : List ℕ
head_widths = 4 ∷ 1 ∷ 1 ∷ []

abbrev pub head_numbers : State → List ℕ
head_numbers s = s.clock ∷ s.off ∷ s.chosen ∷ []

abbrev pub thread_from : List ℕ → Thread
thread_from l =
    record {
      created = get_or l 0 0;
      base = get_or l 1 0;
      current = get_or l 2 0;
      quantum = get_or l 3 0;
      left = get_or l 4 0;
      limit = get_or l 5 0;
      result = get_or l 6 0;
      mask = get_or l 7 0;
      mode = get_or l 8 0;
      delivered = get_or l 9 0;
    }

abbrev pub thread_numbers : Thread → List ℕ
thread_numbers t = t.created ∷ t.base ∷ t.current ∷ t.quantum ∷ t.left ∷ t.limit ∷ t.result ∷ t.mask ∷ t.mode ∷ t.delivered ∷ []

abbrev pub threads_at : Place Thread
threads_at =
    record {
      of = thread_from;
      numbers = thread_numbers;
      widths = 1 ∷ 1 ∷ 1 ∷ 2 ∷ 2 ∷ 4 ∷ 1 ∷ 2 ∷ 1 ∷ 2 ∷ [];
      first = total head_widths;
      many = thread_count;
    }

abbrev pub semaphores_at : Place Semaphore
semaphores_at =
    record {
      of = λ l. record { created = get_or l 0 0; count = get_or l 1 0; maximum = get_or l 2 0 };
      numbers = λ x. x.created ∷ x.count ∷ x.maximum ∷ [];
      widths = 1 ∷ 2 ∷ 2 ∷ [];
      first = end threads_at;
      many = semaphore_count;
    }

abbrev pub mutexes_at : Place Mutex
mutexes_at =
    record {
      of = λ l. record { created = get_or l 0 0; owner = get_or l 1 0; depth = get_or l 2 0 };
      numbers = λ x. x.created ∷ x.owner ∷ x.depth ∷ [];
      widths = 1 ∷ 1 ∷ 1 ∷ [];
      first = end semaphores_at;
      many = mutex_count;
    }

abbrev pub flags_at : Place Flags
flags_at =
    record {
      of = λ l. record { created = get_or l 0 0; word = get_or l 1 0 };
      numbers = λ x. x.created ∷ x.word ∷ [];
      widths = 1 ∷ 2 ∷ [];
      first = end mutexes_at;
      many = flags_count;
    }

abbrev pub timer_from : List ℕ → Timer
timer_from l =
    record {
      period = get_or l 0 0;
      left = get_or l 1 0;
      repeat = get_or l 2 0;
      kind = get_or l 3 0;
      object = get_or l 4 0;
      mask = get_or l 5 0;
      count = get_or l 6 0;
    }

abbrev pub timers_at : Place Timer
timers_at =
    record {
      of = timer_from;
      numbers = timer_numbers;
      widths = 4 ∷ 4 ∷ 1 ∷ 1 ∷ 1 ∷ 2 ∷ 4 ∷ [];
      first = end flags_at;
      many = timer_count;
    }

-- the links: next of each thread, first of each list, previous of each thread, last of each list, a byte each. The ready lists come
-- first, then all others by their numbers.
abbrev pub linked_lists : ℕ
linked_lists = priority_count + list_count

abbrev pub links_first : ℕ
links_first = end timers_at

abbrev pub links_length : ℕ
links_length = thread_count + linked_lists + (thread_count + linked_lists)

abbrev pub image_length : ℕ
image_length = links_first + links_length

-- ---- reading

-- the part of the links, and the lists that they lead through
abbrev pub links_part : List ℕ → List ℕ
links_part b = part links_first links_length b

abbrev pub lists_of : List ℕ → List (List ℕ)
lists_of b = lists_in thread_count linked_lists (links_part b)

unfoldable pub view : List ℕ → State
view b =
    record {
      clock = get_or (reads head_widths 0 b) 0 0;
      off = get_or (reads head_widths 0 b) 1 0;
      chosen = get_or (reads head_widths 0 b) 2 0;
      threads = all threads_at b;
      semaphores = all semaphores_at b;
      mutexes = all mutexes_at b;
      flags = all flags_at b;
      timers = all timers_at b;
      ready = take priority_count (lists_of b);
      waits = drop priority_count (lists_of b);
    }

-- ---- laying out

abbrev pub image_parts : State → List (List ℕ)
image_parts s =
    lays head_widths (head_numbers s)
    ∷ bytes_of_all threads_at s.threads
    ∷ bytes_of_all semaphores_at s.semaphores
    ∷ bytes_of_all mutexes_at s.mutexes
    ∷ bytes_of_all flags_at s.flags
    ∷ bytes_of_all timers_at s.timers
    ∷ links_of thread_count (s.ready ++ s.waits)
    ∷ []

unfoldable pub lay : State → List ℕ
lay s = joined (image_parts s)

-- ---- what only the layout can break

-- the length, and links that aren't those of the lists that they lead through
unfoldable pub orderly : List ℕ → Bool
orderly b = eqb (length b) image_length && orderly_links thread_count linked_lists (links_part b)

-- ---- the whole

unfoldable pub sound_image : List ℕ → Bool
sound_image b = orderly b && sound (view b)
