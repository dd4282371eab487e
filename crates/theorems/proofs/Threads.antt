-- Calls 1 to 8 leave a lawful table in which the choice can be made.
use mathlib.Core.Path.{◌≡◌, refl, sym, ◌∙◌, ap, subst}
use mathlib.Core.Bool.{Bool, true, false, cond, ◌&&◌, false≢true, true≢false}
use mathlib.Core.Logic.{inl, inr, ⊎_elim}
use Prim.Native.Nat.{ℕ, ◌<◌, max}
use native.Mathlib.Omega.{arith}
use borrow.Author.Tests.{eqb-false, ltb-true, lt-ltb, leb-false, not-false}
use lib.Dec.{ltb}
use Rattle.sequences.specs.Lists.{count, count_all}
use Rattle.sequences.proofs.Tests.{both, left, right}
use Rattle.sequences.proofs.Places.{length-alter, alter-at}
use Rattle.sequences.proofs.Counts.{among-count}
use Rattle.sequences.proofs.Parts.{any_counted}
use Rattle.model.specs.declared.requests.Request.{Request}
use Rattle.model.specs.declared.tables.Thread.{Thread}
use Rattle.model.specs.State.{State, scheduling_on, nobody, absent_thread, stopped_list}
use Rattle.model.specs.Parts.{thread, list, alter_thread, with_base, with_quantum}
use Rattle.model.specs.Ranges.{is_priority, fits_16, fits_32, is_positive_32}
use Rattle.model.specs.Words.{leave, enter_ready, enter_tail, become_ready, suspend, start_to_sleep, take_priority, owns_any}
use Rattle.model.specs.Sound.{thread_in_range}
use Rattle.model.specs.Answers.{accepted, first-due}
use Rattle.model.specs.Calls.{answers, nobody_runs, unused_id, unused_bcd, unused_cd, create_thread, start, stop, exit, yield, sleep, set_priority, set_quantum}
use Rattle.model.specs.Effects.{new_thread, new_current, create_thread_effect, start_effect, stop_effect, exit_effect, yield_effect, sleep_effect, set_priority_effect, set_quantum_effect}
use Rattle.theorems.specs.Lawful.{ThreadFits, Idle, Lawful, Steady, Unchosen}
use Rattle.theorems.proofs.Fits.{fits-quantum, range}
use Rattle.theorems.proofs.Readings.{there_below}
use Rattle.theorems.proofs.Moves.{leave-lawful, absent_aside, aside_absent, aside_altered, enter_stopped-lawful}
use Rattle.theorems.proofs.Keeping.{record_altered, not-absent, become_ready-lawful, start_to_sleep-lawful, altered_lawful, ready-idle}
use Rattle.theorems.proofs.Staying.{keeps_both, leave-keeps, become_ready-keeps, take_priority-keeps}
use Rattle.theorems.proofs.Priorities.{take_priority-lawful}
use Rattle.theorems.proofs.Passed.{passed}
use Rattle.theorems.proofs.Running.{unset, kept, on-only, named, running-there, running-idle}

module _ (q : Request) (s : State) (steady : Steady s) where
  w : Lawful nobody s
  w = steady.lawful

  pub create_thread_unchosen : accepted (first-due (answers create_thread q s)) ≡ true → Unchosen (create_thread_effect q s)
  unfolding answers create_thread_effect enter_tail thread_in_range
  create_thread_unchosen ok =
      kept steady
      (enter_stopped-lawful q.id (alter_thread q.id (λ t. new_thread q.a q.b) s)
      (aside_altered q.id (λ t. new_thread q.a q.b) s (absent_aside q.id s w none) fits
      (record { least = omega arith; owners = λ e. refl }) (λ o. refl))
      (ap (λ (t : Thread). t.created) now) (subst Idle (sym now) (record { limit = refl; mask = refl; mode = refl })))
      (record { off = refl; chosen = refl; ready = λ x h. h })
    where
      below : q.id < 16
      below = leb-false 16 q.id (passed (answers create_thread q s) 0 refl ok)

      numbers : is_priority q.a && fits_16 q.b && unused_cd q ≡ true
      numbers = not-false _ (passed (answers create_thread q s) 1 refl ok)

      quantum : fits_16 q.b ≡ true
      quantum = right (is_priority q.a) (fits_16 q.b) (left (is_priority q.a && fits_16 q.b) (unused_cd q) numbers)

      priority : is_priority q.a ≡ true
      priority = left (is_priority q.a) (fits_16 q.b) (left (is_priority q.a && fits_16 q.b) (unused_cd q) numbers)

      none : (thread q.id s).created ≡ 0
      none =
          unset (thread q.id s).created (range (w.threads q.id) 0)
          (rw (lt-ltb q.id 16 below) at (passed (answers create_thread q s) 2 refl ok))

      now : thread q.id (alter_thread q.id (λ t. new_thread q.a q.b) s) ≡ new_thread q.a q.b
      now = alter-at (λ t. new_thread q.a q.b) q.id s.threads absent_thread (omega (arith, w.placed.threads, below))

      fits : ThreadFits (new_thread q.a q.b)
      fits =
          record {
            in_range = both refl (both priority (both priority (both quantum (both quantum refl))));
            within = omega arith;
            some_left = λ h. h;
            absent = λ e. absurd (omega arith);
          }

  pub start_unchosen : accepted (first-due (answers start q s)) ≡ true → Unchosen (start_effect q s)
  unfolding answers start_effect
  start_unchosen ok =
      kept steady (become_ready-lawful q.id s w there (w.stopped 0 q.id (omega arith) on))
      (become_ready-keeps q.id s (omega (arith, w.placed.priorities q.id, w.placed.ready)))
    where
      there : (thread q.id s).created ≡ 1
      there = (named q.id 16 (thread q.id s).created (not-false _ (passed (answers start q s) 0 refl ok))).1

      on : 0 < count q.id (list stopped_list s)
      on = ltb-true 0 (count q.id (list 1 s)) (sym (among-count q.id (list 1 s)) ∙ not-false _ (passed (answers start q s) 2 refl ok))

  pub stop_unchosen : accepted (first-due (answers stop q s)) ≡ true → Unchosen (stop_effect q s)
  unfolding answers stop_effect enter_tail leave
  stop_unchosen ok =
      record {
        lawful =
            enter_stopped-lawful q.id (leave q.id s) (leave-lawful q.id s w) there
            (ready-idle w q.id (any_counted q.id s.ready (not-false _ (passed (answers stop q s) 3 refl ok))));
        stands = λ off.
            ⊎_elim (λ (e : s.chosen ≡ nobody). inl e)
            (λ (h : 0 < count_all s.chosen s.ready). inr (leave-keeps q.id s.chosen s (other off) h)) steady.stands;
      }
    where
      there : (thread q.id s).created ≡ 1
      there = (named q.id 16 (thread q.id s).created (not-false _ (passed (answers stop q s) 0 refl ok))).1

      other : scheduling_on s ≡ false → q.id ≡ s.chosen → ⊥
      other off = eqb-false q.id s.chosen (rw off at (passed (answers stop q s) 2 refl ok))

  pub exit_unchosen : accepted (first-due (answers exit q s)) ≡ true → Unchosen (exit_effect q s)
  unfolding answers exit_effect leave owns_any thread_in_range
  exit_unchosen ok = on-only s (aside_absent c (alter_thread c (λ t. absent_thread) (leave c s)) gone none) refl (passed (answers exit q s) 2 refl ok)
    where
      c : ℕ
      c = s.chosen

      there : (thread c s).created ≡ 1
      there = running-there s steady (passed (answers exit q s) 1 refl ok)

      gone : Lawful c (alter_thread c (λ t. absent_thread) (leave c s))
      gone =
          aside_altered c (λ t. absent_thread) (leave c s) (leave-lawful c s w)
          (record { in_range = refl; within = omega arith; some_left = λ h. h; absent = λ e. refl }) (record { least = omega arith; owners = λ e. refl })
          (λ o. absurd (true≢false (sym o ∙ passed (answers exit q s) 3 refl ok)))

      none : (thread c (alter_thread c (λ t. absent_thread) (leave c s))).created ≡ 0
      none = ap (λ (t : Thread). t.created) (sym (record_altered w c there (λ t. absent_thread)))

  pub yield_unchosen : accepted (first-due (answers yield q s)) ≡ true → Unchosen (yield_effect q s)
  unfolding answers yield_effect become_ready enter_ready leave
  yield_unchosen ok =
      on-only s (become_ready-lawful s.chosen s w (running-there s steady runs) (running-idle s steady runs)) refl (passed (answers yield q s) 2 refl ok)
    where
      runs : nobody_runs s ≡ false
      runs = passed (answers yield q s) 1 refl ok

  pub sleep_unchosen : accepted (first-due (answers sleep q s)) ≡ true → Unchosen (sleep_effect q s)
  unfolding answers sleep_effect start_to_sleep enter_tail suspend leave
  sleep_unchosen ok =
      on-only s
      (start_to_sleep-lawful s.chosen s w (running-there s steady (passed (answers sleep q s) 1 refl ok)) q.a
      (right (ltb 0 q.a) (fits_32 q.a) span) (ltb-true 0 q.a (left (ltb 0 q.a) (fits_32 q.a) span)))
      refl (passed (answers sleep q s) 2 refl ok)
    where
      span : is_positive_32 q.a ≡ true
      span =
          right (unused_id q) (is_positive_32 q.a)
          (left (unused_id q && is_positive_32 q.a) (unused_bcd q) (not-false _ (passed (answers sleep q s) 0 refl ok)))

  pub set_quantum_unchosen : accepted (first-due (answers set_quantum q s)) ≡ true → Unchosen (set_quantum_effect q s)
  unfolding answers set_quantum_effect
  set_quantum_unchosen ok =
      kept steady
      (altered_lawful nobody q.id (with_quantum q.a q.a) s w
      (fits-quantum (w.threads q.id) q.a q.a fits fits (omega arith) (λ h. h) (not-absent there)) refl refl refl refl refl refl (λ h e. e))
      (record { off = refl; chosen = refl; ready = λ x h. h })
    where
      there : (thread q.id s).created ≡ 1
      there = (named q.id 16 (thread q.id s).created (not-false _ (passed (answers set_quantum q s) 0 refl ok))).1

      fits : fits_16 q.a ≡ true
      fits = left _ _ (not-false _ (passed (answers set_quantum q s) 1 refl ok))

  pub set_priority_unchosen : accepted (first-due (answers set_priority q s)) ≡ true → Unchosen (set_priority_effect q s)
  unfolding answers set_priority_effect
  set_priority_unchosen ok =
      kept steady (by_owner (owns_any q.id s) refl)
      (keeps_both (record { off = refl; chosen = refl; ready = λ x h. h })
      (take_priority-keeps q.id p (alter_thread q.id (with_base q.a) s)
      (rw (length-alter q.id (with_base q.a) s.threads) (omega (arith, there_below w.placed q.id there, w.placed.threads)))
      (omega (arith, below (owns_any q.id s), w.placed.ready))))
    where
      p : ℕ
      p = new_current q.id q.a s

      there : (thread q.id s).created ≡ 1
      there = (named q.id 16 (thread q.id s).created (not-false _ (passed (answers set_priority q s) 0 refl ok))).1

      base : is_priority q.a ≡ true
      base = left _ _ (not-false _ (passed (answers set_priority q s) 1 refl ok))

      below : (b : Bool) → cond b (max q.a (thread q.id s).current) q.a < 8
      below true = omega (arith, ltb-true q.a 8 base, w.placed.priorities q.id)
      below false = ltb-true q.a 8 base

      by_owner : (b : Bool) → owns_any q.id s ≡ b
          → Lawful nobody (take_priority q.id (cond b (max q.a (thread q.id s).current) q.a) (alter_thread q.id (with_base q.a) s))
      by_owner true e =
          take_priority-lawful q.id q.a (max q.a (thread q.id s).current) s w there base
          (lt-ltb (max q.a (thread q.id s).current) 8 (below true)) (omega arith) (λ none. absurd (false≢true (sym none ∙ e)))
      by_owner false e = take_priority-lawful q.id q.a q.a s w there base base (omega arith) (λ none. refl)
