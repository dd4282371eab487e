-- A table whose tests of soundness but for the choice all pass is lawful: each law from the clause that states it, by its place in the
-- model's list of clauses, and for a thread on a list from those lists that it is then not on.
use mathlib.Core.Path.{◌≡◌, refl, sym, ◌∙◌}
use mathlib.Core.Bool.{Bool, true, false, not, ◌&&◌, ◌||◌, or-true}
use mathlib.Core.List.{List, [], ◌∷◌, map}
use Prim.Native.Nat.{ℕ, ◌+◌, ◌-◌, ◌<◌, ◌≤◌}
use native.Mathlib.Decide.{ℕ_discrete}
use native.Mathlib.Omega.{arith}
use borrow.Author.Tests.{eqb-true, eq-eqb, leb-true, ltb-true, ltb-false, lt-ltb, not-true}
use lib.Dec.{eqb, leb, ltb}
use lib.ListN.{length, get_or, drop, length-drop}
use lib.Seq.{get_or-drop}
use Rattle.sequences.specs.Lists.{among, count, all_zero, falls}
use Rattle.sequences.proofs.Tests.{left, right, untrue, every-at, every_below-at}
use Rattle.sequences.proofs.Counts.{among-count, count_all-at, every-counted}
use Rattle.sequences.proofs.Bounds.{all_zero-at}
use Rattle.sequences.proofs.Parts.{at-every-place, counted_nonempty, counted-among, among-counted, one_place, part-place}
use Rattle.model.specs.State.{State, absent_thread, absent_semaphore, absent_mutex, absent_flags, unused_timer, nobody, sleep_list, stopped_list}
use Rattle.model.specs.Parts.{thread, semaphore, mutex, flag_object, timer, ready_list, list}
use Rattle.model.specs.Ranges.{◌implies◌, names_object, action_in_range}
use Rattle.model.specs.Words.{sleeps, is_waiting, awaits_flags, owns_any, holds}
use Rattle.model.specs.Sound.{thread_in_range, semaphore_in_range, mutex_in_range, flags_in_range, timer_in_range}
use Rattle.model.specs.Sound.{waited_for, each_on_one_list, absent_threads_zero, wait_lists_fall, currents_fit}
use Rattle.model.specs.Sound.{awaited_semaphores_empty, counts_within_maximum, unowned_written_zero, awaited_mutexes_owned, owners_created, owners_wait_elsewhere}
use Rattle.model.specs.Sound.{conditions_unmet, flag_waiters_masked, timers_within_period, unused_timers_zero, actions_fit}
use Rattle.model.specs.Sound.{sleepers_limited, others_unlimited, others_maskless, waits_without_result, quanta_fit}
use Rattle.model.specs.Sound.{absent_semaphores_zero, absent_mutexes_zero, absent_flags_zero, clauses, sound_but_choice}
use Rattle.placed.specs.Placed.{Placed, standing}
use Rattle.placed.proofs.Standing.{standing_below}
use Rattle.placed.proofs.Sounds.{clause, size, field, sound-placed}
use Rattle.theorems.specs.Lawful.{ThreadFits, SemaphoreFits, MutexFits, FlagsFits, TimerFits, CurrentFits, Objects, Idle, Sleeping, Pending, Claiming, Awaiting, Lawful}
use Rattle.theorems.proofs.Readings.{implied, waiting_there, waiting_place}

-- an object that isn't created is all zero, and nobody waits for it
module _ (created : ℕ) (zeros : Bool) (l : List ℕ) (clause : (eqb created 0 implies zeros && not (ltb 0 (length l))) ≡ true) where
  both_parts : created ≡ 0 → zeros && not (ltb 0 (length l)) ≡ true
  both_parts e = implied (eqb created 0) (zeros && not (ltb 0 (length l))) clause (eq-eqb created 0 e)

  absent_zero : created ≡ 0 → zeros ≡ true
  absent_zero e = left zeros (not (ltb 0 (length l))) (both_parts e)

  awaited_there : (x : ℕ) → leb created 1 ≡ true → 0 < count x l → created ≡ 1
  awaited_there x bit h =
      elim (ℕ_discrete created 0) [
        | yes e ↦
            let empty = not-true (ltb 0 (length l)) (right zeros (not (ltb 0 (length l))) (both_parts e)) in
            let some : true ≡ false = sym (counted_nonempty x l h) ∙ empty in
            cc
        | no n ↦ omega (arith, leb-true created 1 bit)
      ]

module _ (s : State) (whole : sound_but_choice s ≡ true) where
  w : Placed s
  w = sound-placed s whole

  -- ---- threads by themselves

  threads : (i : ℕ) → ThreadFits (thread i s)
  unfolding clauses thread_in_range quanta_fit absent_threads_zero
  threads =
      at-every-place (λ i t. ThreadFits t) absent_thread s.threads 16 w.threads
      (λ i h. record { in_range = refl; within = omega arith; some_left = λ h. absurd (omega arith); absent = λ e. refl })
      (λ i h.
      let t = thread i s in
      let quanta = every_below-at _ 16 i h (clause s whole 22) in
      record {
        in_range = every-at thread_in_range absent_thread s.threads i (omega (arith, w.threads)) (field s whole 2);
        within = leb-true t.left t.quantum (left _ _ quanta);
        some_left = λ q. ltb-true 0 t.left (implied (ltb 0 t.quantum) _ (right (leb t.left t.quantum) _ quanta) (lt-ltb 0 t.quantum q));
        absent = λ e. implied (eqb t.created 0) _ (every_below-at _ 16 i h (clause s whole 3)) (eq-eqb t.created 0 e);
      })

  currents : (i : ℕ) → CurrentFits i (thread i s) s
  unfolding clauses currents_fit
  currents =
      at-every-place (λ i t. CurrentFits i t s) absent_thread s.threads 16 w.threads
      (λ i h. record { least = omega arith; owners = λ e. refl })
      (λ i h.
      let t = thread i s in
      let fit = every_below-at _ 16 i h (clause s whole 6) in
      record {
        least = leb-true t.base t.current (left _ _ fit);
        owners = λ e. eqb-true t.current t.base (rw e at (right (leb t.base t.current) (owns_any i s || eqb t.current t.base) fit));
      })

  once : (i : ℕ) → (i ≡ nobody → ⊥) → standing i s ≡ (thread i s).created
  unfolding clauses each_on_one_list
  once i n =
      at-every-place (λ i t. standing i s ≡ t.created) absent_thread s.threads 16 w.threads w.known
      (λ i h. eqb-true (standing i s) (thread i s).created (every_below-at _ 16 i h (clause s whole 2))) i

  -- ---- objects and timers

  many_semaphores : length s.semaphores ≡ 8
  many_semaphores = eqb-true (length s.semaphores) 8 (size s whole 1)

  many_mutexes : length s.mutexes ≡ 4
  many_mutexes = eqb-true (length s.mutexes) 4 (size s whole 2)

  many_flags : length s.flags ≡ 4
  many_flags = eqb-true (length s.flags) 4 (size s whole 3)

  many_timers : length s.timers ≡ 8
  many_timers = eqb-true (length s.timers) 8 (size s whole 4)

  semaphores : (o : ℕ) → SemaphoreFits (semaphore o s)
  unfolding clauses semaphore_in_range counts_within_maximum absent_semaphores_zero
  semaphores =
      at-every-place (λ o x. SemaphoreFits x) absent_semaphore s.semaphores 8 many_semaphores
      (λ o h. record { in_range = refl; within = omega arith; absent = λ e. refl })
      (λ o h.
      let x = semaphore o s in
      record {
        in_range = every-at semaphore_in_range absent_semaphore s.semaphores o (omega (arith, many_semaphores)) (field s whole 3);
        within = leb-true x.count x.maximum (every_below-at _ 8 o h (clause s whole 8));
        absent = λ e.
            let zeros = x.count ∷ x.maximum ∷ [] in
            all_zero-at zeros 1 (absent_zero x.created (all_zero zeros) (list (2 + o) s) (every_below-at _ 8 o h (clause s whole 23)) e);
      })

  mutexes : (o : ℕ) → MutexFits (mutex o s)
  unfolding clauses mutex_in_range unowned_written_zero absent_mutexes_zero
  mutexes =
      at-every-place (λ o x. MutexFits x) absent_mutex s.mutexes 4 many_mutexes
      (λ o h. record { in_range = refl; unowned = λ e. refl; absent = λ e. refl })
      (λ o h.
      let x = mutex o s in
      record {
        in_range = every-at mutex_in_range absent_mutex s.mutexes o (omega (arith, many_mutexes)) (field s whole 4);
        unowned = λ e. eqb-true x.owner 0 (implied (eqb x.depth 0) _ (every_below-at _ 4 o h (clause s whole 9)) (eq-eqb x.depth 0 e));
        absent = λ e.
            let zeros = x.owner ∷ x.depth ∷ [] in
            all_zero-at zeros 1 (absent_zero x.created (all_zero zeros) (list (10 + o) s) (every_below-at _ 4 o h (clause s whole 24)) e);
      })

  flags : (o : ℕ) → FlagsFits (flag_object o s)
  unfolding clauses flags_in_range absent_flags_zero
  flags =
      at-every-place (λ o x. FlagsFits x) absent_flags s.flags 4 many_flags
      (λ o h. record { in_range = refl; absent = λ e. refl })
      (λ o h.
      let x = flag_object o s in
      record {
        in_range = every-at flags_in_range absent_flags s.flags o (omega (arith, many_flags)) (field s whole 5);
        absent = λ e. eqb-true x.word 0 (absent_zero x.created (eqb x.word 0) (list (14 + o) s) (every_below-at _ 4 o h (clause s whole 25)) e);
      })

  action : (o : ℕ) → o < 8
      → names_object (timer o s).kind (timer o s).object s && action_in_range (timer o s).kind (timer o s).object (timer o s).mask ≡ true
  unfolding clauses actions_fit
  action o h = every_below-at _ 8 o h (clause s whole 17)

  timers : (o : ℕ) → TimerFits (timer o s)
  unfolding clauses timer_in_range timers_within_period unused_timers_zero
  timers =
      at-every-place (λ o t. TimerFits t) unused_timer s.timers 8 many_timers
      (λ o h. record { in_range = refl; within = omega arith; unused = λ e. refl; action = refl })
      (λ o h.
      let t = timer o s in
      record {
        in_range = every-at timer_in_range unused_timer s.timers o (omega (arith, many_timers)) (field s whole 6);
        within = leb-true t.left t.period (every_below-at _ 8 o h (clause s whole 15));
        unused = λ e. implied (eqb t.period 0) _ (every_below-at _ 8 o h (clause s whole 16)) (eq-eqb t.period 0 e);
        action = right (names_object t.kind t.object s) _ (action o h);
      })

  -- by the kind of a timer, given as a number so that the test computes
  names : (o : ℕ) → o < 8 → (kind : ℕ) → (timer o s).kind ≡ kind → names_object kind (timer o s).object s ≡ true
  names o h kind e = rw (← e) (left _ _ (action o h))

  objects : Objects s.semaphores s.mutexes s.flags s.timers
  objects =
      record {
        many_semaphores = many_semaphores;
        many_mutexes = many_mutexes;
        many_flags = many_flags;
        many_timers = many_timers;
        semaphores = semaphores;
        mutexes = mutexes;
        flags = flags;
        timers = timers;
        posting =
            at-every-place (λ o t. t.kind ≡ 1 → (semaphore t.object s).created ≡ 1) unused_timer s.timers 8 many_timers
            (λ o h e. absurd (omega arith))
            (λ o h e. let object = (timer o s).object in eqb-true (semaphore object s).created 1 (right (ltb object 8) _ (names o h 1 e)));
        setting =
            at-every-place (λ o t. t.kind ≡ 2 → (flag_object t.object s).created ≡ 1) unused_timer s.timers 8 many_timers
            (λ o h e. absurd (omega arith))
            (λ o h e. let object = (timer o s).object in eqb-true (flag_object object s).created 1 (right (ltb object 4) _ (names o h 2 e)));
      }

  owners : (o : ℕ) → 0 < (mutex o s).depth → (thread (mutex o s).owner s).created ≡ 1
  unfolding clauses owners_created
  owners =
      at-every-place (λ o x. 0 < x.depth → (thread x.owner s).created ≡ 1) absent_mutex s.mutexes 4 many_mutexes
      (λ o h d. absurd (omega arith))
      (λ o h d.
      let x = mutex o s in
      eqb-true (thread x.owner s).created 1 (implied (ltb 0 x.depth) _ (every_below-at _ 4 o h (clause s whole 11)) (lt-ltb 0 x.depth d)))

  -- ---- lists

  falling : (j : ℕ) → 2 ≤ j → falls (map (λ x. (thread x s).current) (list j s)) ≡ true
  unfolding clauses wait_lists_fall
  falling =
      at-every-place (λ j l. 2 ≤ j → falls (map (λ x. (thread x s).current) l) ≡ true) [] s.waits 18 w.waits
      (λ j h least. refl)
      (λ j h least.
      let back : 2 + (j - 2) ≡ j = omega arith in
      let here : get_or (drop 2 s.waits) (j - 2) [] ≡ list j s = rw (get_or-drop 2 s.waits (j - 2) [], back) in
      let below : j - 2 < length (drop 2 s.waits) = omega (arith, length-drop 2 s.waits, w.waits) in
      rw (← here) (every-at (λ l. falls (map (λ x. (thread x s).current) l)) [] (drop 2 s.waits) (j - 2) below (clause s whole 5)))

  -- ---- threads by the lists that they are on

  maskless : (i : ℕ) → i < 16 → ((j : ℕ) → 0 < count i (list j s) → j < 14) → ((thread i s).mask ≡ 0) × ((thread i s).mode ≡ 0)
  unfolding clauses others_maskless
  maskless i h on =
      let t = thread i s in
      let unflagged : awaits_flags i s ≡ false =
      untrue (awaits_flags i s) (λ e. let r = part-place i s.waits 14 4 e in absurd (omega (arith, on (14 + r.0) r.1.1))) in
      let c = implied (not (awaits_flags i s)) (eqb t.mask 0 && eqb t.mode 0) (every_below-at _ 16 i h (clause s whole 20)) (rw unflagged refl) in
      (eqb-true t.mask 0 (left (eqb t.mask 0) (eqb t.mode 0) c), eqb-true t.mode 0 (right (eqb t.mask 0) (eqb t.mode 0) c))

  -- who is on no list but the stopped one is idle
  idle : (i : ℕ) → i < 16 → ((j : ℕ) → 0 < count i (list j s) → j ≡ 1) → Idle (thread i s)
  unfolding clauses others_unlimited
  idle i h on =
      let t = thread i s in
      let mask = maskless i h (λ j c. omega (arith, on j c)) in
      let unwaiting : is_waiting i s ≡ false =
      untrue (is_waiting i s) (λ e. let r = waiting_place w i e in absurd (omega (arith, on r.0 r.1.1))) in
      let unsleeping : sleeps i s ≡ false = untrue (sleeps i s) (λ e. absurd (omega (arith, on 0 (among-counted i (list 0 s) e)))) in
      record {
        limit =
            eqb-true t.limit 0 (implied (not (is_waiting i s) && not (sleeps i s)) _ (every_below-at _ 16 i h (clause s whole 19)) (rw (unwaiting, unsleeping) refl));
        mask = mask.0;
        mode = mask.1;
      }

  -- who is on a list that isn't a ready list is on that one only
  module _ (i j : ℕ) (h : 0 < count i (list j s)) where
    here : i < 16
    here = standing_below w i (omega (arith, count_all-at i s.waits j))

    only : (q : ℕ) → 0 < count i (list q s) → q ≡ j
    only q k = one_place i s.waits q j (omega (arith, w.once i)) k h

    unmasked : j < 14 → ((thread i s).mask ≡ 0) × ((thread i s).mode ≡ 0)
    unmasked k = maskless i here (λ q c. omega (arith, only q c))

    resultless : is_waiting i s || sleeps i s ≡ true → (thread i s).result ≡ 0
    unfolding clauses waits_without_result
    resultless e = eqb-true (thread i s).result 0 (implied (is_waiting i s || sleeps i s) _ (every_below-at _ 16 i here (clause s whole 21)) e)

    waits_resultless : 2 ≤ j → (thread i s).result ≡ 0
    waits_resultless k = resultless (rw (waiting_there w i j k h) refl)

  readies : (p i : ℕ) → 0 < count i (ready_list p s) → Idle (thread i s)
  readies p i h =
      let ready = count_all-at i s.ready p in
      idle i (standing_below w i (omega arith)) (λ j c. absurd (omega (arith, count_all-at i s.waits j, w.once i)))

  stopped : (i : ℕ) → 0 < count i (list stopped_list s) → Idle (thread i s)
  stopped i h = idle i (here i 1 h) (only i 1 h)

  sleepers : (i : ℕ) → 0 < count i (list sleep_list s) → Sleeping (thread i s)
  unfolding clauses sleepers_limited
  sleepers i h =
      let mask = unmasked i 0 h (omega arith) in
      record {
        limit = ltb-true 0 (thread i s).limit (every-counted (λ i. ltb 0 (thread i s).limit) (list 0 s) i (clause s whole 18) h);
        result = resultless i 0 h (rw (counted-among i (list 0 s) h) (or-true (is_waiting i s)));
        mask = mask.0;
        mode = mask.1;
      }

  pending : (o i : ℕ) → o < 8 → 0 < count i (list (2 + o) s) → Pending (thread i s) (semaphore o s)
  unfolding clauses semaphore_in_range awaited_semaphores_empty absent_semaphores_zero
  pending o i k h =
      let x = semaphore o s in
      let mask = unmasked i (2 + o) h (omega arith) in
      let absent = every_below-at _ 8 o k (clause s whole 23) in
      let bit : leb x.created 1 ≡ true = left _ _ (left _ _ (left _ _ (semaphores o).in_range)) in
      record {
        result = waits_resultless i (2 + o) h (omega arith);
        mask = mask.0;
        mode = mask.1;
        there = awaited_there x.created (all_zero (x.count ∷ x.maximum ∷ [])) (list (2 + o) s) absent i bit h;
        empty = eqb-true x.count 0 (implied (waited_for (2 + o) s) _ (every_below-at _ 8 o k (clause s whole 7)) (counted_nonempty i (list (2 + o) s) h));
      }

  claiming : (o i : ℕ) → o < 4 → 0 < count i (list (10 + o) s) → Claiming i (thread i s) (mutex o s)
  unfolding clauses mutex_in_range awaited_mutexes_owned owners_wait_elsewhere absent_mutexes_zero
  claiming o i k h =
      let x = mutex o s in
      let mask = unmasked i (10 + o) h (omega arith) in
      let absent = every_below-at _ 4 o k (clause s whole 24) in
      let owned : ltb 0 x.depth ≡ true =
      implied (waited_for (10 + o) s) _ (every_below-at _ 4 o k (clause s whole 10)) (counted_nonempty i (list (10 + o) s) h) in
      record {
        result = waits_resultless i (10 + o) h (omega arith);
        mask = mask.0;
        mode = mask.1;
        there = awaited_there x.created (all_zero (x.owner ∷ x.depth ∷ [])) (list (10 + o) s) absent i (left _ _ (left _ _ (mutexes o).in_range)) h;
        owned = ltb-true 0 x.depth owned;
        others = λ e.
            let elsewhere = not-true (among x.owner (list (10 + o) s)) (implied (ltb 0 x.depth) _ (every_below-at _ 4 o k (clause s whole 12)) owned) in
            omega (arith, ltb-false 0 (count i (list (10 + o) s)) (sym (among-count i (list (10 + o) s)) ∙ rw e at elsewhere));
      }

  awaiting : (o i : ℕ) → o < 4 → 0 < count i (list (14 + o) s) → Awaiting (thread i s) (flag_object o s)
  unfolding clauses flags_in_range conditions_unmet flag_waiters_masked absent_flags_zero
  awaiting o i k h =
      let t = thread i s in
      let x = flag_object o s in
      let absent = every_below-at _ 4 o k (clause s whole 25) in
      record {
        result = waits_resultless i (14 + o) h (omega arith);
        mask = ltb-true 0 t.mask (left _ _ (every-counted _ (list (14 + o) s) i (every_below-at _ 4 o k (clause s whole 14)) h));
        unmet = not-true (holds t.mode t.mask x.word) (every-counted _ (list (14 + o) s) i (every_below-at _ 4 o k (clause s whole 13)) h);
        there = awaited_there x.created (eqb x.word 0) (list (14 + o) s) absent i (left _ _ (flags o).in_range) h;
      }

  -- ---- all of it

  pub sound-lawful : Lawful nobody s
  sound-lawful =
      record {
        clock = field s whole 0;
        off = field s whole 1;
        objects = objects;
        threads = threads;
        currents = currents;
        owners = owners;
        placed = w;
        once = once;
        apart = w.known 255 (omega arith);
        falling = falling;
        readies = λ p i k h. readies (0 + p) i h;
        sleepers = λ o i k h. let e : 0 + o ≡ 0 = omega arith in sleepers i (rw e at h);
        stopped = λ o i k h. let e : 1 + o ≡ 1 = omega arith in stopped i (rw e at h);
        pending = pending;
        claiming = claiming;
        awaiting = awaiting;
      }
