-- A lawful table passes every test of soundness but for the choice: a law for each clause, in the model's order. What is asked of each
-- thread goes by the one list that it stands on.
use mathlib.Core.Path.{◌≡◌, refl, sym, ◌∙◌}
use mathlib.Core.Bool.{Bool, true, false, not, ◌&&◌, ◌||◌}
use mathlib.Core.List.{List, [], ◌∷◌}
use Prim.Native.Nat.{ℕ, zero, suc, ◌+◌, ◌<◌, ◌≤◌}
use native.Mathlib.Decide.{dec_lt}
use native.Mathlib.Omega.{arith}
use borrow.Author.Tests.{eqb-true, eq-eqb, ltb-true, le-leb, lt-ltb, not-true}
use lib.Dec.{eqb, ltb}
use lib.ListN.{length, get_or, drop}
use lib.Seq.{get_or-drop}
use Rattle.sequences.specs.Lists.{among, count, count_all, every, all_zero}
use Rattle.sequences.proofs.Tests.{both, left, right, untrue, every-from, every_below-from, or_from, or_cases}
use Rattle.sequences.proofs.Counts.{count_all-at, count_all-place}
use Rattle.sequences.proofs.Bounds.{all_zero-at}
use Rattle.sequences.proofs.Parts.{nonempty_counted, among-counted, counted-among, counted_below, every_if_counted, part_has}
use Rattle.model.specs.declared.tables.Thread.{Thread}
use Rattle.model.specs.State.{State, absent_thread, absent_semaphore, absent_mutex, absent_flags, unused_timer, nobody}
use Rattle.model.specs.Parts.{thread, semaphore, mutex, flag_object, timer, ready_list, list}
use Rattle.model.specs.Ranges.{◌implies◌, names_object}
use Rattle.model.specs.Words.{sleeps, is_waiting, awaits_flags, owns_any}
use Rattle.model.specs.Sound.{shaped, thread_in_range, semaphore_in_range, mutex_in_range, flags_in_range, timer_in_range, ids_in_range}
use Rattle.model.specs.Sound.{fields_in_range, thread_numbers, zero_thread, waited_for, each_on_one_list, absent_threads_zero, ready_by_priority, wait_lists_fall, currents_fit}
use Rattle.model.specs.Sound.{awaited_semaphores_empty, counts_within_maximum, unowned_written_zero, awaited_mutexes_owned, owners_created, owners_wait_elsewhere}
use Rattle.model.specs.Sound.{conditions_unmet, flag_waiters_masked, timers_within_period, unused_timers_zero, actions_fit}
use Rattle.model.specs.Sound.{sleepers_limited, others_unlimited, others_maskless, waits_without_result, quanta_fit}
use Rattle.model.specs.Sound.{absent_semaphores_zero, absent_mutexes_zero, absent_flags_zero, clauses, sound_but_choice}
use Rattle.placed.specs.Placed.{standing}
use Rattle.placed.proofs.Standing.{standing_below}
use Rattle.theorems.specs.Lawful.{Idle, Lawful}
use Rattle.theorems.proofs.Fits.{range}
use Rattle.theorems.proofs.Readings.{implies_from, by_list, waiting_there, waiting_place, semaphore_below, flags_below}

-- an object that isn't created is all zero, and nobody waits for it
absent-clear : (created : ℕ) (zeros : Bool) (l : List ℕ) → (created ≡ 0 → zeros ≡ true) → ((x : ℕ) → 0 < count x l → created ≡ 1)
    → (eqb created 0 implies zeros && not (ltb 0 (length l))) ≡ true
absent-clear created zeros l clear there =
    implies_from (eqb created 0) (zeros && not (ltb 0 (length l)))
    (λ e.
    let none = eqb-true created 0 e in
    let empty : ltb 0 (length l) ≡ false =
    untrue (ltb 0 (length l)) (λ a. let r = nonempty_counted l a in absurd (omega (arith, there r.0 r.1))) in
    both (clear none) (rw empty refl))

zero_idle : (t : Thread) → zero_thread t ≡ true → Idle t
zero_idle t z =
    record { limit = all_zero-at (thread_numbers t) 5 z; mask = all_zero-at (thread_numbers t) 7 z; mode = all_zero-at (thread_numbers t) 8 z }

module _ (s : State) (w : Lawful nobody s) where
  sizes_fit : shaped s ≡ true
  unfolding shaped
  sizes_fit =
      both (eq-eqb (length s.threads) 16 w.placed.threads)
      (both (eq-eqb (length s.semaphores) 8 w.objects.many_semaphores)
      (both (eq-eqb (length s.mutexes) 4 w.objects.many_mutexes)
      (both (eq-eqb (length s.flags) 4 w.objects.many_flags)
      (both (eq-eqb (length s.timers) 8 w.objects.many_timers)
      (both (eq-eqb (length s.ready) 8 w.placed.ready)
      (both (eq-eqb (length s.waits) 18 w.placed.waits) refl))))))

  ids_fit : (ls : List (List ℕ)) → ((i : ℕ) → count_all i ls ≤ standing i s) → every ids_in_range ls ≡ true
  unfolding ids_in_range
  ids_fit ls part =
      every-from ids_in_range [] ls
      (λ p h.
      every_if_counted (λ i. ltb i 16) (get_or ls p [])
      (λ i c. lt-ltb i 16 (standing_below w.placed i (omega (arith, part i, count_all-at i ls p)))))

  fields_fit : fields_in_range s ≡ true
  unfolding fields_in_range
  fields_fit =
      both w.clock
      (both w.off
      (both (every-from thread_in_range absent_thread s.threads (λ i h. (w.threads i).in_range))
      (both (every-from semaphore_in_range absent_semaphore s.semaphores (λ o h. (w.objects.semaphores o).in_range))
      (both (every-from mutex_in_range absent_mutex s.mutexes (λ o h. (w.objects.mutexes o).in_range))
      (both (every-from flags_in_range absent_flags s.flags (λ o h. (w.objects.flags o).in_range))
      (both (every-from timer_in_range unused_timer s.timers (λ o h. (w.objects.timers o).in_range))
      (both (ids_fit s.ready (λ i. omega arith))
      (both (ids_fit s.waits (λ i. omega arith)) refl))))))))

  once : each_on_one_list s ≡ true
  unfolding each_on_one_list
  once = every_below-from _ 16 (λ i h. eq-eqb (standing i s) (thread i s).created (w.once i (λ e. absurd (omega arith))))

  absent_zero : absent_threads_zero s ≡ true
  unfolding absent_threads_zero
  absent_zero = every_below-from _ 16 (λ i h. implies_from (eqb (thread i s).created 0) _ (λ e. (w.threads i).absent (eqb-true (thread i s).created 0 e)))

  level : ready_by_priority s ≡ true
  unfolding ready_by_priority
  level = every_below-from _ 8 (λ p h. every_if_counted _ (ready_list p s) (λ i c. eq-eqb (thread i s).current p (w.placed.level p i c)))

  falling : wait_lists_fall s ≡ true
  unfolding wait_lists_fall
  falling = every-from _ [] (drop 2 s.waits) (λ k h. rw (get_or-drop 2 s.waits k []) (w.falling (2 + k) (omega arith)))

  currents : currents_fit s ≡ true
  unfolding currents_fit
  currents =
      every_below-from _ 16
      (λ i h.
      let t = thread i s in
      both (le-leb t.base t.current (w.currents i).least)
      (or_from (owns_any i s) _ (λ e. eq-eqb t.current t.base ((w.currents i).owners e))))

  -- ---- semaphores and mutexes

  semaphores-empty : awaited_semaphores_empty s ≡ true
  unfolding awaited_semaphores_empty
  semaphores-empty =
      every_below-from _ 8
      (λ o h.
      implies_from (waited_for (2 + o) s) _
      (λ e. let r = nonempty_counted (list (2 + o) s) e in eq-eqb (semaphore o s).count 0 (w.pending o r.0 h r.1).empty))

  counts_within : counts_within_maximum s ≡ true
  unfolding counts_within_maximum
  counts_within = every_below-from _ 8 (λ o h. le-leb (semaphore o s).count (semaphore o s).maximum (w.objects.semaphores o).within)

  unowned : unowned_written_zero s ≡ true
  unfolding unowned_written_zero
  unowned =
      every_below-from _ 4
      (λ o h.
      let x = mutex o s in
      implies_from (eqb x.depth 0) _ (λ e. eq-eqb x.owner 0 ((w.objects.mutexes o).unowned (eqb-true x.depth 0 e))))

  mutexes-owned : awaited_mutexes_owned s ≡ true
  unfolding awaited_mutexes_owned
  mutexes-owned =
      every_below-from _ 4
      (λ o h.
      implies_from (waited_for (10 + o) s) _
      (λ e. let r = nonempty_counted (list (10 + o) s) e in lt-ltb 0 (mutex o s).depth (w.claiming o r.0 h r.1).owned))

  owners-there : owners_created s ≡ true
  unfolding owners_created
  owners-there =
      every_below-from _ 4
      (λ o h.
      let x = mutex o s in
      implies_from (ltb 0 x.depth) _ (λ e. eq-eqb (thread x.owner s).created 1 (w.owners o (ltb-true 0 x.depth e))))

  owners_elsewhere : owners_wait_elsewhere s ≡ true
  unfolding owners_wait_elsewhere
  owners_elsewhere =
      every_below-from _ 4
      (λ o h.
      let x = mutex o s in
      implies_from (ltb 0 x.depth) _
      (λ e.
      let elsewhere =
      untrue (among x.owner (list (10 + o) s))
      (λ a. absurd ((w.claiming o x.owner h (among-counted x.owner (list (10 + o) s) a)).others refl)) in
      rw elsewhere refl))

  -- ---- flag objects

  unmet : conditions_unmet s ≡ true
  unfolding conditions_unmet
  unmet = every_below-from _ 4 (λ o h. every_if_counted _ (list (14 + o) s) (λ i c. rw (w.awaiting o i h c).unmet refl))

  masked : flag_waiters_masked s ≡ true
  unfolding flag_waiters_masked thread_in_range
  masked =
      every_below-from _ 4
      (λ o h.
      every_if_counted _ (list (14 + o) s)
      (λ i c. both (lt-ltb 0 (thread i s).mask (w.awaiting o i h c).mask) (range (w.threads i) 8)))

  -- ---- timers

  within_period : timers_within_period s ≡ true
  unfolding timers_within_period
  within_period = every_below-from _ 8 (λ o h. le-leb (timer o s).left (timer o s).period (w.objects.timers o).within)

  unused_zero : unused_timers_zero s ≡ true
  unfolding unused_timers_zero
  unused_zero =
      every_below-from _ 8 (λ o h. implies_from (eqb (timer o s).period 0) _ (λ e. (w.objects.timers o).unused (eqb-true (timer o s).period 0 e)))

  named : (kind o : ℕ) → (kind ≡ 1 → (semaphore o s).created ≡ 1) → (kind ≡ 2 → (flag_object o s).created ≡ 1) → names_object kind o s ≡ true
  named zero o post set = refl
  named (suc zero) o post set = both (lt-ltb o 8 (semaphore_below o s w.objects.many_semaphores (post refl))) (eq-eqb (semaphore o s).created 1 (post refl))
  named (suc (suc zero)) o post set = both (lt-ltb o 4 (flags_below o s w.objects.many_flags (set refl))) (eq-eqb (flag_object o s).created 1 (set refl))
  named (suc (suc (suc kind))) o post set = refl

  actions : actions_fit s ≡ true
  unfolding actions_fit
  actions =
      every_below-from _ 8
      (λ o h. both (named (timer o s).kind (timer o s).object (w.objects.posting o) (w.objects.setting o)) (w.objects.timers o).action)

  -- ---- limits, masks, results, quanta

  sleeping : sleepers_limited s ≡ true
  unfolding sleepers_limited
  sleeping = every_if_counted _ (list 0 s) (λ i c. lt-ltb 0 (thread i s).limit (w.sleepers 0 i (omega arith) c).limit)

  -- a thread is absent or ready, or on one of the other lists
  by_place : (i : ℕ) → i < 16 → (Q : Type 0) → (Idle (thread i s) → Q) → ((j : ℕ) → j < 18 → 0 < count i (list j s) → Q) → Q
  by_place i h Q idle waits =
      elim (dec_lt 0 (count_all i s.ready)) [
        | yes some ↦
            let r = count_all-place i s.ready some in
            let same : 0 + r.0 ≡ r.0 = omega arith in
            idle (w.readies r.0 i (omega (arith, counted_below i s.ready r.0 r.1, w.placed.ready)) (rw same r.1))
        | no none ↦
            elim (dec_lt 0 (count_all i s.waits)) [
              | yes some ↦
                  let r = count_all-place i s.waits some in
                  waits r.0 (omega (arith, counted_below i s.waits r.0 r.1, w.placed.waits)) r.1
              | no off ↦ idle (zero_idle (thread i s) ((w.threads i).absent (omega (arith, w.once i (λ e. absurd (omega arith))))))
            ]
      ]

  limitless : (i : ℕ) → i < 16 → is_waiting i s ≡ false → sleeps i s ≡ false → (thread i s).limit ≡ 0
  limitless i h unwaiting unsleeping =
      by_place i h ((thread i s).limit ≡ 0) (λ t. t.limit)
      (by_list (λ j. 0 < count i (list j s) → (thread i s).limit ≡ 0)
      (λ c. let z : true ≡ false = sym (counted-among i (list 0 s) c) ∙ unsleeping in cc)
      (λ c. (w.stopped 0 i (omega arith) c).limit)
      (λ o k c. waiting (2 + o) (omega arith) c)
      (λ o k c. waiting (10 + o) (omega arith) c)
      (λ o k c. waiting (14 + o) (omega arith) c))
    where
      waiting : (j : ℕ) → 2 ≤ j → 0 < count i (list j s) → (thread i s).limit ≡ 0
      waiting j k c = let z : true ≡ false = sym (waiting_there w.placed i j k c) ∙ unwaiting in cc

  unlimited : others_unlimited s ≡ true
  unfolding others_unlimited
  unlimited =
      every_below-from _ 16
      (λ i h.
      implies_from (not (is_waiting i s) && not (sleeps i s)) _
      (λ e.
      eq-eqb (thread i s).limit 0
      (limitless i h (not-true (is_waiting i s) (left _ _ e)) (not-true (sleeps i s) (right (not (is_waiting i s)) _ e)))))

  unmasked : (i : ℕ) → i < 16 → awaits_flags i s ≡ false → eqb (thread i s).mask 0 && eqb (thread i s).mode 0 ≡ true
  unmasked i h unflagged =
      by_place i h (eqb (thread i s).mask 0 && eqb (thread i s).mode 0 ≡ true) (λ t. zeros t.mask t.mode)
      (by_list (λ j. 0 < count i (list j s) → eqb (thread i s).mask 0 && eqb (thread i s).mode 0 ≡ true)
      (λ c. let t = w.sleepers 0 i (omega arith) c in zeros t.mask t.mode)
      (λ c. let t = w.stopped 0 i (omega arith) c in zeros t.mask t.mode)
      (λ o k c. let t = w.pending o i k c in zeros t.mask t.mode)
      (λ o k c. let t = w.claiming o i k c in zeros t.mask t.mode)
      (λ o k c. let z : true ≡ false = sym (part_has i s.waits 14 4 (14 + o) (omega arith) (omega arith) c) ∙ unflagged in cc))
    where
      zeros : (thread i s).mask ≡ 0 → (thread i s).mode ≡ 0 → eqb (thread i s).mask 0 && eqb (thread i s).mode 0 ≡ true
      zeros mask mode = both (eq-eqb (thread i s).mask 0 mask) (eq-eqb (thread i s).mode 0 mode)

  maskless : others_maskless s ≡ true
  unfolding others_maskless
  maskless = every_below-from _ 16 (λ i h. implies_from (not (awaits_flags i s)) _ (λ e. unmasked i h (not-true (awaits_flags i s) e)))

  resultless : (i j : ℕ) → j < 18 → 2 ≤ j → 0 < count i (list j s) → (thread i s).result ≡ 0
  resultless i =
      by_list (λ j. 2 ≤ j → 0 < count i (list j s) → (thread i s).result ≡ 0)
      (λ k c. absurd (omega arith))
      (λ k c. absurd (omega arith))
      (λ o h k c. (w.pending o i h c).result)
      (λ o h k c. (w.claiming o i h c).result)
      (λ o h k c. (w.awaiting o i h c).result)

  without-result : waits_without_result s ≡ true
  unfolding waits_without_result
  without-result =
      every_below-from _ 16
      (λ i h.
      implies_from (is_waiting i s || sleeps i s) _
      (λ e.
      eq-eqb (thread i s).result 0
      (or_cases (is_waiting i s) (sleeps i s) e
      (λ a.
      let r = waiting_place w.placed i a in
      resultless i r.0 (omega (arith, counted_below i s.waits r.0 r.1.1, w.placed.waits)) r.1.0 r.1.1)
      (λ a. (w.sleepers 0 i (omega arith) (among-counted i (list 0 s) a)).result))))

  quanta : quanta_fit s ≡ true
  unfolding quanta_fit
  quanta =
      every_below-from _ 16
      (λ i h.
      let t = thread i s in
      both (le-leb t.left t.quantum (w.threads i).within)
      (implies_from (ltb 0 t.quantum) _ (λ e. lt-ltb 0 t.left ((w.threads i).some_left (ltb-true 0 t.quantum e)))))

  -- ---- objects not created

  absent-semaphores : absent_semaphores_zero s ≡ true
  unfolding absent_semaphores_zero
  absent-semaphores =
      every_below-from _ 8
      (λ o h.
      let x = semaphore o s in
      let fits = w.objects.semaphores o in
      absent-clear x.created (all_zero (x.count ∷ x.maximum ∷ [])) (list (2 + o) s)
      (λ e. both (eq-eqb x.count 0 (omega (arith, fits.within, fits.absent e))) (both (eq-eqb x.maximum 0 (fits.absent e)) refl))
      (λ i c. (w.pending o i h c).there))

  absent-mutexes : absent_mutexes_zero s ≡ true
  unfolding absent_mutexes_zero
  absent-mutexes =
      every_below-from _ 4
      (λ o h.
      let x = mutex o s in
      let fits = w.objects.mutexes o in
      absent-clear x.created (all_zero (x.owner ∷ x.depth ∷ [])) (list (10 + o) s)
      (λ e. both (eq-eqb x.owner 0 (fits.unowned (fits.absent e))) (both (eq-eqb x.depth 0 (fits.absent e)) refl))
      (λ i c. (w.claiming o i h c).there))

  absent_flags-clear : absent_flags_zero s ≡ true
  unfolding absent_flags_zero
  absent_flags-clear =
      every_below-from _ 4
      (λ o h.
      let x = flag_object o s in
      absent-clear x.created (eqb x.word 0) (list (14 + o) s) (λ e. eq-eqb x.word 0 ((w.objects.flags o).absent e))
      (λ i c. (w.awaiting o i h c).there))

  -- ---- all of it, in the order of the clauses

  pub lawful-sound : sound_but_choice s ≡ true
  unfolding sound_but_choice clauses
  lawful-sound =
      both sizes_fit
      (both fields_fit
      (both once
      (both absent_zero
      (both level
      (both falling
      (both currents
      (both semaphores-empty
      (both counts_within
      (both unowned
      (both mutexes-owned
      (both owners-there
      (both owners_elsewhere
      (both unmet
      (both masked
      (both within_period
      (both unused_zero
      (both actions
      (both sleeping
      (both unlimited
      (both maskless
      (both without-result
      (both quanta
      (both absent-semaphores
      (both absent-mutexes
      (both absent_flags-clear refl)))))))))))))))))))))))))
