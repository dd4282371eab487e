-- The passes over semaphores, mutexes, flag objects and timers each ask the clauses of soundness that speak of them: a pass asks all of each object,
-- a clause one thing of all objects, so what is known of one object is sorted by columns.
use mathlib.Core.Path.{◌≡◌, refl, sym, ◌∙◌}
use mathlib.Core.Bool.{Bool, true, false, cond, not}
use mathlib.Core.List.{List, [], ◌∷◌}
use Prim.Native.Nat.{ℕ, suc, ◌+◌, ◌<◌}
use borrow.Author.Tests.{eqb-true}
use lib.Dec.{eqb}
use lib.ListN.{get_or}
use Rattle.sequences.specs.Lists.{all_true, among, count_all}
use Rattle.sequences.specs.Bytes.{Bytes}
use Rattle.sequences.specs.Links.{Once}
use Rattle.sequences.proofs.Tests.{every_below-at}
use Rattle.sequences.proofs.Bounds.{every_by_columns}
use Rattle.links.specs.Noted.{mark, Marked}
use Rattle.model.specs.State.{thread_count, priority_count, semaphore_count, mutex_count, flags_count, timer_count, semaphore_list, mutex_list, flags_list}
use Rattle.model.specs.State.{absent_semaphore, absent_mutex, absent_flags, unused_timer}
use Rattle.model.specs.Parts.{thread, semaphore, mutex, flag_object, timer, list}
use Rattle.model.specs.Sound.{waited_for, each_on_one_list, semaphore_in_range, mutex_in_range, flags_in_range, timer_in_range}
use Rattle.model.specs.Sound.{awaited_semaphores_empty, counts_within_maximum, absent_semaphores_zero}
use Rattle.model.specs.Sound.{unowned_written_zero, awaited_mutexes_owned, owners_created, owners_wait_elsewhere, absent_mutexes_zero}
use Rattle.model.specs.Sound.{absent_flags_zero, timers_within_period, unused_timers_zero, actions_fit}
use Rattle.model.specs.Layout.{view, lists_of}
use Rattle.fields.specs.Fields.{Sized}
use Rattle.sound.specs.Asked.{semaphores_asked, mutexes_asked, flag_objects_asked, timers_asked}
use Rattle.sound.proofs.Marks.{mark-counted, mark_on}
use Rattle.sound.proofs.Sorted.{semaphore-clauses, mutex-clauses, flags-clauses, timer-clauses}
use Rattle.layout.proofs.Viewed.{many_semaphores, many_mutexes, many_flags, many_timers, list_linked, counts_linked}
use Rattle.layout.proofs.Viewed.{semaphore_fits, mutex_fits, flags_fit, timer_fits}
use Rattle.sound.proofs.OneObject.{semaphore_tests, mutex_tests, flags_tests, timer_tests}

module _ (b : List ℕ) (o : Bytes b) (size : Sized b) where
  pub semaphores_by_clauses : semaphores_asked (view b) ≡ all_true (semaphore-clauses (view b))
  unfolding semaphores_asked awaited_semaphores_empty counts_within_maximum absent_semaphores_zero
  semaphores_by_clauses =
      every_by_columns semaphore_in_range absent_semaphore (view b).semaphores semaphore_count _ (_ ∷ _ ∷ _ ∷ []) (many_semaphores b)
      (λ k h. semaphore_tests (semaphore k (view b)) (waited_for (semaphore_list k) (view b)) (semaphore_fits b o k h))

  pub flags_by_clauses : flag_objects_asked (view b) ≡ all_true (flags-clauses (view b))
  unfolding flag_objects_asked absent_flags_zero
  flags_by_clauses =
      every_by_columns flags_in_range absent_flags (view b).flags flags_count _ (_ ∷ []) (many_flags b)
      (λ k h. flags_tests (flag_object k (view b)) (waited_for (flags_list k) (view b)) (flags_fit b o k h))

  pub timers_by_clauses : timers_asked (view b) ≡ all_true (timer-clauses (view b))
  unfolding timers_asked timers_within_period unused_timers_zero actions_fit
  timers_by_clauses =
      every_by_columns timer_in_range unused_timer (view b).timers timer_count _ (_ ∷ _ ∷ _ ∷ []) (many_timers b)
      (λ k h. timer_tests (timer k (view b)) (view b) (timer_fits b o k h))

  module _ (marks : List ℕ) (m : Marked thread_count (lists_of b) marks) (once : Once thread_count (lists_of b)) where
    -- the owner's mark tells whether it is there and where it waits
    there-marked : each_on_one_list (view b) ≡ true → (i : ℕ) → i < thread_count → eqb (thread i (view b)).created 1 ≡ not (eqb (get_or marks i 0) 0)
    unfolding each_on_one_list
    there-marked e i h =
        let s = view b in
        let standing : (i : ℕ) → ℕ = λ i. count_all i s.ready + count_all i s.waits in
        let created : (thread i s).created ≡ cond (eqb (mark i (lists_of b)) 0) 0 1
        = sym (eqb-true (standing i) (thread i s).created (every_below-at (λ i. eqb (standing i) (thread i s).created) thread_count i h e))
        ∙ counts_linked b i ∙ mark-counted once i in
        rw (created, m.at i h) (one_unless (eqb (mark i (lists_of b)) 0))
      where
        one_unless : (none : Bool) → eqb (cond none 0 1) 1 ≡ not none
        one_unless true = refl
        one_unless false = refl

    waiter-marked : (k i : ℕ) → i < thread_count
        → among i (list (mutex_list k) (view b)) ≡ eqb (get_or marks i 0) (suc (priority_count + mutex_list k))
    waiter-marked k i h = rw (list_linked b (mutex_list k), m.at i h) (mark_on once i (priority_count + mutex_list k))

  pub mutexes_by_clauses : (marks : List ℕ) → Marked thread_count (lists_of b) marks → Once thread_count (lists_of b)
      → each_on_one_list (view b) ≡ true → mutexes_asked marks (view b) ≡ all_true (mutex-clauses (view b))
  unfolding mutexes_asked unowned_written_zero awaited_mutexes_owned owners_created owners_wait_elsewhere absent_mutexes_zero
  mutexes_by_clauses marks m once e =
      every_by_columns mutex_in_range absent_mutex (view b).mutexes mutex_count _ (_ ∷ _ ∷ _ ∷ _ ∷ _ ∷ []) (many_mutexes b)
      (λ k h.
      let x = mutex k (view b) in
      mutex_tests k x (waited_for (mutex_list k) (view b)) (eqb (thread x.owner (view b)).created 1) (among x.owner (list (mutex_list k) (view b)))
      (get_or marks x.owner 0) (mutex_fits b o k h) (there-marked marks m once e x.owner) (waiter-marked marks m once k x.owner))
