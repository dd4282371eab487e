-- What the passes ask of an image whose links have been followed is what soundness asks: whether the links are orderly the pass over the threads
-- tells, and the clauses are the same in another order.
use mathlib.Core.Path.{◌≡◌, sym, ◌∙◌}
use mathlib.Core.Bool.{true, ◌&&◌}
use mathlib.Core.List.{List}
use Prim.Native.Nat.{ℕ, ◌+◌}
use native.Mathlib.Omega.{arith}
use borrow.Author.Tests.{eq-eqb}
use lib.Dec.{eqb}
use lib.ListN.{length}
use Rattle.sequences.specs.Lists.{all_true}
use Rattle.sequences.specs.Bytes.{Bytes}
use Rattle.sequences.specs.Links.{Orderly, orderly_links}
use Rattle.sequences.proofs.Tests.{both, left, right, same_truth, all_true-at}
use Rattle.sequences.proofs.Lending.{part_shifted}
use Rattle.sequences.proofs.LinksOrderly.{test_true, test_passes}
use Rattle.links.specs.Noted.{Noted}
use Rattle.model.specs.State.{State, thread_count}
use Rattle.model.specs.Ranges.{is_bit}
use Rattle.model.specs.Sound.{choice_fits, sound_but_choice, sound}
use Rattle.model.specs.Layout.{view, links_part, linked_lists, links_first, links_length, image_length, orderly, sound_image}
use Rattle.fields.specs.Fields.{Sized}
use Rattle.sound.specs.Asked.{Followed, asked, threads_asked, objects_asked}
use Rattle.sound.proofs.Sorted.{thread_clauses, semaphore-clauses, mutex-clauses, flags-clauses, timer-clauses}
use Rattle.sound.proofs.Shapes.{view-shaped, clock-fits, ready-in_range, waits-in_range}
use Rattle.sound.proofs.ThreadsAsked.{asked-orderly, asked-threads, threads_pass}
use Rattle.sound.proofs.ObjectsAsked.{semaphores_by_clauses, mutexes_by_clauses, flags_by_clauses, timers_by_clauses}
use Rattle.sound.proofs.Passed.{Passed, Formed, passed-sound, sound-passed}

pub followed : (b marks : List ℕ) → Sized b → Noted thread_count linked_lists (links_part b) marks → Followed b marks
followed b marks size n =
    record {
      size = size;
      marked = n.marked;
      back = λ i h some.
          let place : links_first + (thread_count + linked_lists) + i ≡ links_first + (thread_count + linked_lists + i) = omega arith in
          let same = part_shifted links_first links_length b (omega arith) (thread_count + linked_lists + i) (omega arith) in
          rw (place, same) (n.back i h (rw (n.marked.at i h) at some));
    }

module _ (b marks : List ℕ) (o : Bytes b) (size : Sized b) (n : Noted thread_count linked_lists (links_part b) marks) where
  abbrev s : State
  s = view b

  -- by the clauses of each kind: the marks tell of owners what they tell of threads on orderly links
  objects_by_clauses : Orderly thread_count linked_lists (links_part b) → all_true (thread_clauses s) ≡ true
      → objects_asked marks s
      ≡ all_true (semaphore-clauses s) && (all_true (mutex-clauses s) && (all_true (flags-clauses s) && all_true (timer-clauses s)))
  unfolding objects_asked
  objects_by_clauses w t =
      rw (
        semaphores_by_clauses b o size,
        mutexes_by_clauses b o size marks n.marked w.apart (all_true-at (thread_clauses s) 1 t),
        flags_by_clauses b o size,
        timers_by_clauses b o size,
      )

  asked-whole : asked marks b ≡ true → sound_image b ≡ true
  unfolding sound_image orderly sound
  asked-whole e =
      let threads = threads_asked marks b in
      let head = is_bit s.off && choice_fits s in
      let objects = objects_asked marks s in
      let x = all_true (semaphore-clauses s) in
      let m = all_true (mutex-clauses s) in
      let f = all_true (flags-clauses s) in
      let r = all_true (timer-clauses s) in
      let t : threads ≡ true = left threads (head && objects) e in
      let h : head && objects ≡ true = right threads (head && objects) e in
      let w = asked-orderly b marks o size n t in
      let passed-threads = asked-threads b marks o size n t in
      let passed : x && (m && (f && r)) ≡ true = sym (objects_by_clauses w passed-threads) ∙ right head objects h in
      let rest = right x (m && (f && r)) passed in
      let last = right m (f && r) rest in
      let sorted : Passed s =
      record {
        off = left (is_bit s.off) (choice_fits s) (left head objects h);
        threads = passed-threads;
        semaphores = left x (m && (f && r)) passed;
        mutexes = left m (f && r) rest;
        flags = left f r last;
        timers = right f r last;
      } in
      let formed : Formed s =
      record {
        shape = view-shaped b w.many;
        clock = clock-fits b o;
        ready = ready-in_range b w.apart;
        waits = waits-in_range b w.apart;
      } in
      both (both (eq-eqb (length b) image_length size) (test_passes thread_count linked_lists (links_part b) w))
      (both (passed-sound s formed sorted) (right (is_bit s.off) (choice_fits s) (left head objects h)))

  whole-asked : sound_image b ≡ true → asked marks b ≡ true
  unfolding sound_image orderly sound
  whole-asked e =
      let links = orderly_links thread_count linked_lists (links_part b) in
      let w = test_true thread_count linked_lists (links_part b) (right (eqb (length b) image_length) links (left (orderly b) (sound s) e)) in
      let p = sound-passed s (left (sound_but_choice s) (choice_fits s) (right (orderly b) (sound s) e)) in
      let chosen = right (sound_but_choice s) (choice_fits s) (right (orderly b) (sound s) e) in
      both (threads_pass b marks o size n w p.threads)
      (both (both p.off chosen)
      (objects_by_clauses w p.threads ∙ both p.semaphores (both p.mutexes (both p.flags p.timers))))

pub asked-sound : (b marks : List ℕ) → Bytes b → Sized b → Noted thread_count linked_lists (links_part b) marks → asked marks b ≡ sound_image b
asked-sound b marks o size n = same_truth (asked marks b) (sound_image b) (asked-whole b marks o size n) (whole-asked b marks o size n)
