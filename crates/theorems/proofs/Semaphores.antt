-- Calls 9 to 11 leave a lawful table in which the choice can be made; so does a post by a timer.
use mathlib.Core.Path.{◌≡◌, refl, sym, ◌∙◌, ap}
use mathlib.Core.Bool.{Bool, true, false, cond, ◌&&◌, and-true}
use mathlib.Core.List.{List, [], ◌∷◌}
use Prim.Native.Nat.{ℕ, ◌+◌, ◌-◌, ◌<◌, ◌≤◌}
use native.Mathlib.Omega.{arith}
use borrow.Author.Tests.{eqb-true, eqb-false, eq-eqb, ltb-true, lt-ltb, leb-true, leb-false, le-leb, not-false}
use lib.Dec.{eqb, leb, ltb}
use Rattle.sequences.specs.Lists.{count}
use Rattle.sequences.proofs.Tests.{both, left, right}
use Rattle.sequences.proofs.Counts.{count_all-at}
use Rattle.model.specs.declared.requests.Request.{Request}
use Rattle.model.specs.declared.tables.Semaphore.{Semaphore}
use Rattle.model.specs.State.{State, nobody, semaphore_list}
use Rattle.model.specs.Parts.{thread, semaphore, list, alter_thread, alter_semaphore, with_wait, with_result, with_count}
use Rattle.model.specs.Ranges.{◌implies◌, is_bit, fits_16, is_positive_16, fits_32}
use Rattle.model.specs.Words.{leave, enter_by_priority, suspend, start_to_wait}
use Rattle.model.specs.Sound.{semaphore_in_range}
use Rattle.model.specs.Answers.{accepted, first-due}
use Rattle.model.specs.Calls.{answers, nobody_runs, scheduling_off, pend_waits, create_semaphore, pend, post}
use Rattle.model.specs.Effects.{create_semaphore_effect, pend_effect, one_more, post_to, post_semaphore, post_effect}
use Rattle.theorems.specs.Lawful.{SemaphoreFits, Waiting, Lawful, Keeps, Steady, Unchosen}
use Rattle.theorems.proofs.Fits.{fits-wait}
use Rattle.theorems.proofs.Readings.{semaphore_below}
use Rattle.theorems.proofs.Records.{semaphore-lawful}
use Rattle.theorems.proofs.Keeping.{not-absent, wake-lawful, start_to_wait-lawful, standing-there}
use Rattle.theorems.proofs.Staying.{wake-keeps}
use Rattle.theorems.proofs.Passed.{passed}
use Rattle.theorems.proofs.Running.{unset, done-lawful, kept, on-only, running-ready, running-there, named}

-- what the ranges of a semaphore say
module _ {x : Semaphore} (f : SemaphoreFits x) where
  marks : is_bit x.created && fits_16 x.count && fits_16 x.maximum ≡ true
  unfolding semaphore_in_range
  marks = left (is_bit x.created && fits_16 x.count && fits_16 x.maximum) (eqb x.created 1 implies ltb 0 x.maximum) f.in_range

  bit : is_bit x.created ≡ true
  bit = left (is_bit x.created) (fits_16 x.count) (left (is_bit x.created && fits_16 x.count) (fits_16 x.maximum) marks)

  most : fits_16 x.maximum ≡ true
  most = right (is_bit x.created && fits_16 x.count) (fits_16 x.maximum) marks

  -- another count, as far as the maximum
  fits_count : x.created ≡ 1 → (n : ℕ) → n ≤ x.maximum → SemaphoreFits (with_count n x)
  unfolding semaphore_in_range
  fits_count there n within =
      record {
        in_range =
            both (both (both bit (le-leb n 65535 (omega (arith, leb-true x.maximum 65535 most)))) most)
            (right (is_bit x.created && fits_16 x.count && fits_16 x.maximum) (eqb x.created 1 implies ltb 0 x.maximum) f.in_range);
        within = within;
        absent = not-absent there;
      }

-- ---- a post, by a call or a timer

module _ (o : ℕ) (s : State) (w : Lawful nobody s) (there : (semaphore o s).created ≡ 1) where
  counted_up : list (semaphore_list o) s ≡ [] → Lawful nobody (alter_semaphore o one_more s)
  counted_up none =
      semaphore-lawful nobody s w o one_more (semaphore_below o s w.objects.many_semaphores there) (by_room (ltb x.count x.maximum) refl)
      (λ h. kept_there (ltb x.count x.maximum))
      (λ i on. absurd (omega (arith, ap (count i) none)))
    where
      x : Semaphore
      x = semaphore o s

      by_room : (b : Bool) → ltb x.count x.maximum ≡ b → SemaphoreFits (cond b (with_count (x.count + 1) x) x)
      by_room true e = fits_count (w.objects.semaphores o) there (x.count + 1) (omega (arith, ltb-true x.count x.maximum e))
      by_room false e = w.objects.semaphores o

      kept_there : (b : Bool) → (cond b (with_count (x.count + 1) x) x).created ≡ 1
      kept_there true = there
      kept_there false = there

  waiter-there : (i : ℕ) (l : List ℕ) → list (semaphore_list o) s ≡ i ∷ l → (thread i s).created ≡ 1
  waiter-there i l e =
      let on : 0 < count i (list (2 + o) s) = rw (e, eq-eqb i i refl) (omega arith) in
      standing-there w i (omega (arith, count_all-at i s.waits (2 + o)))

  by_list : (l : List ℕ) → list (semaphore_list o) s ≡ l → Lawful nobody (post_to o l s) × Keeps s (post_to o l s)
  unfolding post_to
  by_list [] e = (counted_up e, record { off = refl; chosen = refl; ready = λ x h. h })
  by_list (i ∷ l) e = (wake-lawful i s w (waiter-there i l e) 1 refl, wake-keeps i s w 1)

  pub post-lawful : Lawful nobody (post_semaphore o s)
  unfolding post_semaphore
  post-lawful = (by_list (list (semaphore_list o) s) refl).0

  pub post-keeps : Keeps s (post_semaphore o s)
  unfolding post_semaphore
  post-keeps = (by_list (list (semaphore_list o) s) refl).1

-- ---- 9 to 11

module _ (q : Request) (s : State) (steady : Steady s) where
  w : Lawful nobody s
  w = steady.lawful

  pub post_unchosen : accepted (first-due (answers post q s)) ≡ true → Unchosen (post_effect q s)
  unfolding answers post_effect
  post_unchosen ok = kept steady (post-lawful q.id s w there) (post-keeps q.id s w there)
    where
      there : (semaphore q.id s).created ≡ 1
      there = (named q.id 8 (semaphore q.id s).created (not-false _ (passed (answers post q s) 0 refl ok))).1

  pub create_semaphore_unchosen : accepted (first-due (answers create_semaphore q s)) ≡ true → Unchosen (create_semaphore_effect q s)
  unfolding answers create_semaphore_effect semaphore_in_range
  create_semaphore_unchosen ok =
      kept steady
      (semaphore-lawful nobody s w q.id (λ x. record { created = 1; count = q.a; maximum = q.b }) below
      (record {
        in_range =
            both (both (both refl (le-leb q.a 65535 (omega (arith, most, leb-true q.b 65535 maximum)))) maximum)
            (left (ltb 0 q.b) (fits_16 q.b) range);
        within = most;
        absent = λ e. absurd (omega arith);
      })
      (λ h. refl) (λ i on. absurd (omega (arith, none, (w.pending q.id i below on).there))))
      (record { off = refl; chosen = refl; ready = λ x h. h })
    where
      below : q.id < 8
      below = leb-false 8 q.id (passed (answers create_semaphore q s) 0 refl ok)

      numbers : is_positive_16 q.b && leb q.a q.b ≡ true
      numbers = left _ _ (not-false _ (passed (answers create_semaphore q s) 1 refl ok))

      range : is_positive_16 q.b ≡ true
      range = left (is_positive_16 q.b) (leb q.a q.b) numbers

      maximum : fits_16 q.b ≡ true
      maximum = right (ltb 0 q.b) (fits_16 q.b) range

      most : q.a ≤ q.b
      most = leb-true q.a q.b (right (is_positive_16 q.b) (leb q.a q.b) numbers)

      none : (semaphore q.id s).created ≡ 0
      none =
          unset (semaphore q.id s).created (bit (w.objects.semaphores q.id))
          (rw (lt-ltb q.id 8 below) at (passed (answers create_semaphore q s) 2 refl ok))

  pub pend_unchosen : accepted (first-due (answers pend q s)) ≡ true → Unchosen (pend_effect q s)
  unfolding answers pend_effect start_to_wait enter_by_priority suspend leave
  pend_unchosen ok = by_count (pend_waits q s) refl
    where
      o : ℕ
      o = q.id

      c : ℕ
      c = s.chosen

      given : (o < 8) × ((semaphore o s).created ≡ 1)
      given = named o 8 (semaphore o s).created (not-false _ (passed (answers pend q s) 0 refl ok))

      runs : nobody_runs s ≡ false
      runs = passed (answers pend q s) 2 refl ok

      limit : fits_32 q.a ≡ true
      limit = left _ _ (not-false _ (passed (answers pend q s) 1 refl ok))

      waiting : pend_waits q s ≡ true → Waiting (2 + o) c (with_wait q.a 0 0 0 (thread c s)) s
      waiting e =
          record {
            pends = λ n h same.
                let is : n ≡ o = omega arith in
                rw is (record { result = refl; mask = refl; mode = refl; there = given.1; empty = eqb-true (semaphore o s).count 0 e });
            claims = λ n h same. absurd (omega (arith, given.0));
            awaits = λ n h same. absurd (omega (arith, given.0));
          }

      taken : eqb (semaphore o s).count 0 ≡ false → Lawful nobody (alter_semaphore o (λ x. with_count (x.count - 1) x) s)
      taken some =
          semaphore-lawful nobody s w o (λ x. with_count (x.count - 1) x) given.0
          (fits_count (w.objects.semaphores o) given.1 ((semaphore o s).count - 1) (omega (arith, (w.objects.semaphores o).within)))
          (λ h. h) (λ i on. absurd (eqb-false (semaphore o s).count 0 some (w.pending o i given.0 on).empty))

      by_count : (b : Bool) → pend_waits q s ≡ b
          → Unchosen (cond b (start_to_wait (semaphore_list o) c q.a 0 0 s)
          (alter_thread c (with_result 1) (alter_semaphore o (λ x. with_count (x.count - 1) x) s)))
      by_count true e =
          on-only s
          (start_to_wait-lawful c s w (running-there s steady runs) q.a 0 0
          (fits-wait (w.threads c) q.a 0 0 0 limit refl refl refl (not-absent (running-there s steady runs))) (2 + o) (omega arith) (omega (arith, given.0)) (waiting e))
          refl (sym (and-true (scheduling_off s)) ∙ (rw e at (passed (answers pend q s) 3 refl ok)))
      by_count false e =
          kept steady (done-lawful c (alter_semaphore o (λ x. with_count (x.count - 1) x) s) (taken e) (running-ready s steady runs))
          (record { off = refl; chosen = refl; ready = λ x h. h })
