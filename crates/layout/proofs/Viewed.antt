-- What the view of every image has, whatever its bytes are: as many records of each kind as the table says, numbers that fit their bytes, and
-- the lists that the links lead through, the ready lists first.
use mathlib.Core.Path.{◌≡◌, sym, ap, ◌∙◌}
use mathlib.Core.List.{List, []}
use Prim.Native.Nat.{ℕ, ◌+◌, ◌<◌}
use native.Mathlib.Omega.{arith}
use lib.ListN.{length, get_or, take, drop, length-drop, take-append-drop}
use lib.Seq.{get_or-take, get_or-drop, length-take-le}
use Rattle.sequences.specs.Lists.{count_all}
use Rattle.sequences.specs.Bytes.{Bytes}
use Rattle.sequences.proofs.Counts.{count_all-append}
use Rattle.sequences.proofs.Fields.{length-all}
use Rattle.sequences.proofs.Lending.{part_shifted}
use Rattle.sequences.proofs.Linked.{many-lists}
use Rattle.sequences.proofs.RecordsLaid.{Fits}
use Rattle.sequences.proofs.RecordsFit.{read_fits}
use Rattle.model.specs.State.{thread_count, priority_count, semaphore_count, mutex_count, flags_count, timer_count}
use Rattle.model.specs.State.{absent_thread, absent_semaphore, absent_mutex, absent_flags, unused_timer}
use Rattle.model.specs.Parts.{thread, semaphore, mutex, flag_object, timer, ready_list, list}
use Rattle.model.specs.Layout.{threads_at, semaphores_at, mutexes_at, flags_at, timers_at, view}
use Rattle.model.specs.Layout.{linked_lists, links_first, links_length, links_part, lists_of, image_length}
use Rattle.layout.proofs.Faithful.{threads_faithful, semaphores_faithful, mutexes_faithful, flags_faithful, timers_faithful}

module _ (b : List ℕ) where
  -- ---- how many

  pub many-threads : length (view b).threads ≡ thread_count
  unfolding view
  many-threads = length-all threads_at b

  pub many_semaphores : length (view b).semaphores ≡ semaphore_count
  unfolding view
  many_semaphores = length-all semaphores_at b

  pub many_mutexes : length (view b).mutexes ≡ mutex_count
  unfolding view
  many_mutexes = length-all mutexes_at b

  pub many_flags : length (view b).flags ≡ flags_count
  unfolding view
  many_flags = length-all flags_at b

  pub many_timers : length (view b).timers ≡ timer_count
  unfolding view
  many_timers = length-all timers_at b

  -- ---- the lists

  pub ready_linked : (p : ℕ) → p < priority_count → ready_list p (view b) ≡ get_or (lists_of b) p []
  unfolding view
  ready_linked p h = get_or-take priority_count (lists_of b) p [] h

  pub list_linked : (j : ℕ) → list j (view b) ≡ get_or (lists_of b) (priority_count + j) []
  unfolding view
  list_linked j = get_or-drop priority_count (lists_of b) j []

  pub counts_linked : (x : ℕ) → count_all x (view b).ready + count_all x (view b).waits ≡ count_all x (lists_of b)
  unfolding view
  counts_linked x =
      sym (count_all-append x (take priority_count (lists_of b)) (drop priority_count (lists_of b)))
      ∙ ap (count_all x) (take-append-drop priority_count (lists_of b))

  -- ---- the links

  module _ (size : length b ≡ image_length) where
    pub link_read : (k : ℕ) → k < links_length → get_or (links_part b) k 0 ≡ get_or b (links_first + k) 0
    link_read k h = sym (part_shifted links_first links_length b (omega (arith, size)) k h)

    pub many_linked : length (lists_of b) ≡ linked_lists
    many_linked =
        many-lists thread_count linked_lists (links_part b)
        (length-take-le links_length (drop links_first b) (omega (arith, size, length-drop links_first b)))

    pub many-ready : length (view b).ready ≡ priority_count
    unfolding view
    many-ready = length-take-le priority_count (lists_of b) (omega (arith, many_linked))

  -- ---- numbers that fit

  module _ (o : Bytes b) where
    pub thread_fits : (k : ℕ) → k < thread_count → Fits threads_at (thread k (view b))
    unfolding view
    thread_fits k h = read_fits b o threads_at threads_faithful k absent_thread h

    pub semaphore_fits : (k : ℕ) → k < semaphore_count → Fits semaphores_at (semaphore k (view b))
    unfolding view
    semaphore_fits k h = read_fits b o semaphores_at semaphores_faithful k absent_semaphore h

    pub mutex_fits : (k : ℕ) → k < mutex_count → Fits mutexes_at (mutex k (view b))
    unfolding view
    mutex_fits k h = read_fits b o mutexes_at mutexes_faithful k absent_mutex h

    pub flags_fit : (k : ℕ) → k < flags_count → Fits flags_at (flag_object k (view b))
    unfolding view
    flags_fit k h = read_fits b o flags_at flags_faithful k absent_flags h

    pub timer_fits : (k : ℕ) → k < timer_count → Fits timers_at (timer k (view b))
    unfolding view
    timer_fits k h = read_fits b o timers_at timers_faithful k unused_timer h
