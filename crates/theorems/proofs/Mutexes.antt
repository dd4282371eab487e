-- Calls 12 to 14 leave a lawful table in which the choice can be made: who waits for a mutex isn't its owner, and an owner falls to its
-- base priority before it lets go.
use mathlib.Core.Path.{◌≡◌, refl, sym, ◌∙◌, ap}
use mathlib.Core.Bool.{Bool, true, false, cond, not, ◌&&◌, false≢true, true≢false}
use mathlib.Core.Logic.{inl, inr}
use mathlib.Core.List.{List, [], ◌∷◌, map}
use Prim.Native.Nat.{ℕ, ◌+◌, ◌-◌, ◌<◌, ◌≤◌, max}
use native.Mathlib.Decide.{ℕ_discrete}
use native.Mathlib.Omega.{arith}
use borrow.Author.Tests.{eqb-true, eqb-false, eq-eqb, ltb-true, lt-ltb, leb-true, leb-false, le-leb, not-true, not-false}
use lib.Dec.{eqb, leb, ltb}
use Rattle.sequences.specs.Lists.{count, without}
use Rattle.sequences.proofs.Tests.{both, left, right, untrue, some_below-from}
use Rattle.sequences.proofs.Places.{alter-keeps}
use Rattle.sequences.proofs.Counts.{count_all-at, count_all_gone}
use Rattle.model.specs.declared.requests.Request.{Request}
use Rattle.model.specs.declared.tables.Thread.{Thread}
use Rattle.model.specs.declared.tables.Mutex.{Mutex}
use Rattle.model.specs.State.{State, nobody, absent_thread}
use Rattle.model.specs.Parts.{thread, mutex, list, alter_thread, alter_mutex, with_ready, with_current, with_wait, with_result, with_owner}
use Rattle.model.specs.Ranges.{is_bit, is_priority, fits_32}
use Rattle.model.specs.Words.{leave, enter_ready, enter_by_priority, become_ready, wake, suspend, start_to_wait, take_priority, owns, owns_any}
use Rattle.model.specs.Sound.{thread_in_range, mutex_in_range}
use Rattle.model.specs.Answers.{accepted, first-due}
use Rattle.model.specs.Calls.{create_mutex, claim, release, answers, nobody_runs, scheduling_off, unused_bcd, claim_waits}
use Rattle.model.specs.Effects.{create_mutex_effect, raise, claim_effect, hand_over, fall, release_effect}
use Rattle.theorems.specs.Lawful.{Lawful, Keeps, Steady, Unchosen}
use Rattle.theorems.proofs.Fits.{fits-wait, range}
use Rattle.theorems.proofs.Readings.{there_below}
use Rattle.theorems.proofs.Records.{mutex-lawful}
use Rattle.theorems.proofs.Keeping.{record_altered, not-absent, wake-lawful, start_to_wait-lawful, standing-there}
use Rattle.theorems.proofs.Staying.{keeps_both, wake-keeps, take_priority-keeps}
use Rattle.theorems.proofs.Priorities.{take_priority-ready, new_current-lawful}
use Rattle.theorems.proofs.Passed.{passed}
use Rattle.theorems.proofs.Running.{kept, on-only, unset, running-ready, running-there, named, running-waits, done-lawful}

module _ (o : ℕ) (s : State) (w : Lawful nobody s) where
  -- a mutex changes hands where its owner has its base priority: the first waiter is off the list when the mutex becomes its own
  hand_over-lawful : o < 4 → (mutex o s).created ≡ 1 → (thread (mutex o s).owner s).current ≡ (thread (mutex o s).owner s).base
      → (l : List ℕ) → list (10 + o) s ≡ l → Lawful nobody (hand_over o l s)
  unfolding hand_over wake become_ready enter_ready leave mutex_in_range
  hand_over-lawful below there level [] none =
      mutex-lawful nobody s w o (with_owner 0 0) below
      (record { in_range = both (both (le-leb (mutex o s).created 1 (omega arith)) refl) refl; unowned = λ e. refl; absent = λ e. refl })
      (λ h. h) (λ h. absurd (omega arith)) (λ i on. absurd (omega (arith, rw none at on))) (λ h. inr level)
  hand_over-lawful below there level (i ∷ l) first =
      mutex-lawful nobody (wake i 1 s) (wake-lawful i s w waiter 1 refl) o (with_owner i 1) below
      (record {
        in_range = both (both (le-leb (mutex o s).created 1 (omega arith)) (lt-ltb i 16 (there_below w.placed i waiter))) refl;
        unowned = λ e. absurd (omega arith);
        absent = not-absent there;
      })
      (λ h. h) (λ h. kept-part (λ t. t.created) (λ t. refl) i ∙ waiter) (λ x on. (omega arith, λ e. gone (rw (← e) at on)))
      (λ h. inr (kept-part (λ t. t.current) (λ t. refl) (mutex o s).owner ∙ level ∙ sym (kept-part (λ t. t.base) (λ t. refl) (mutex o s).owner)))
    where
      on_list : 0 < count i (list (10 + o) s)
      on_list = rw (first, eq-eqb i i refl) (omega arith)

      waiter : (thread i s).created ≡ 1
      waiter = standing-there w i (omega (arith, on_list, count_all-at i s.waits (10 + o)))

      kept-part : (f : Thread → ℕ) → ((t : Thread) → f (with_wait 0 1 0 0 t) ≡ f t) → (x : ℕ) → f (thread x (wake i 1 s)) ≡ f (thread x s)
      kept-part f same x = alter-keeps f (with_wait 0 1 0 0) same i s.threads x absent_thread

      gone : 0 < count i (list (10 + o) (wake i 1 s)) → ⊥
      gone h = omega (arith, h, count_all-at i (map (without i) s.waits) (10 + o), count_all_gone i s.waits)

  hand_over-keeps : (l : List ℕ) → Keeps s (hand_over o l s)
  unfolding hand_over wake become_ready enter_ready leave
  hand_over-keeps [] = record { off = refl; chosen = refl; ready = λ x h. h }
  hand_over-keeps (i ∷ l) = let k = wake-keeps i s w 1 in record { off = k.off; chosen = k.chosen; ready = k.ready }

module _ (q : Request) (s : State) (steady : Steady s) where
  w : Lawful nobody s
  w = steady.lawful

  abbrev m : Mutex
  m = mutex q.id s

  abbrev c : ℕ
  c = s.chosen

  ids_fit : is_bit m.created && ltb m.owner 16 ≡ true
  unfolding mutex_in_range
  ids_fit = left (is_bit m.created && ltb m.owner 16) (leb m.depth 255) (w.objects.mutexes q.id).in_range

  depth-fits : m.depth ≤ 255
  unfolding mutex_in_range
  depth-fits = leb-true m.depth 255 (right (is_bit m.created && ltb m.owner 16) (leb m.depth 255) (w.objects.mutexes q.id).in_range)

  created-fits : is_bit m.created ≡ true
  created-fits = left (is_bit m.created) (ltb m.owner 16) ids_fit

  pub create_mutex_unchosen : accepted (first-due (answers create_mutex q s)) ≡ true → Unchosen (create_mutex_effect q s)
  unfolding answers create_mutex_effect mutex_in_range
  create_mutex_unchosen ok =
      kept steady
      (mutex-lawful nobody s w q.id (λ x. record { created = 1; owner = 0; depth = 0 }) below
      (record { in_range = refl; unowned = λ e. refl; absent = λ e. refl })
      (λ h. refl) (λ h. absurd (omega arith))
      (λ i on. absurd (omega (arith, (w.claiming q.id i below on).there, none)))
      (λ h. absurd (omega (arith, h, (w.objects.mutexes q.id).absent none))))
      (record { off = refl; chosen = refl; ready = λ x h. h })
    where
      below : q.id < 4
      below = leb-false 4 q.id (passed (answers create_mutex q s) 0 refl ok)

      none : m.created ≡ 0
      none = unset m.created created-fits (rw (lt-ltb q.id 4 below) at (passed (answers create_mutex q s) 2 refl ok))

  pub claim_unchosen : accepted (first-due (answers claim q s)) ≡ true → Unchosen (claim_effect q s)
  unfolding answers claim_effect raise start_to_wait suspend leave enter_by_priority thread_in_range mutex_in_range owns_any
  claim_unchosen ok = by_test (claim_waits q s) refl
    where
      has : (q.id < 4) × (m.created ≡ 1)
      has = named q.id 4 m.created (not-false _ (passed (answers claim q s) 0 refl ok))

      runs : nobody_runs s ≡ false
      runs = passed (answers claim q s) 2 refl ok

      there : (thread c s).created ≡ 1
      there = running-there s steady runs

      limit : fits_32 q.a ≡ true
      limit = left (fits_32 q.a) (unused_bcd q) (not-false _ (passed (answers claim q s) 1 refl ok))

      -- it waits

      waiting : State
      waiting = start_to_wait (10 + q.id) c q.a 0 0 s

      owned : claim_waits q s ≡ true → 0 < m.depth
      owned e = ltb-true 0 m.depth (left (ltb 0 m.depth) (not (eqb m.owner c)) e)

      others : claim_waits q s ≡ true → m.owner ≡ c → ⊥
      others e = eqb-false m.owner c (not-true (eqb m.owner c) (right (ltb 0 m.depth) (not (eqb m.owner c)) e))

      waiting_lawful : claim_waits q s ≡ true → Lawful nobody waiting
      waiting_lawful e =
          start_to_wait-lawful c s w there q.a 0 0 (fits-wait (w.threads c) q.a 0 0 0 limit refl refl refl (not-absent there)) (10 + q.id)
          (omega arith) (omega (arith, has.0))
          (record {
            pends = λ o h at. absurd (omega arith);
            claims = λ o h at.
                let same : q.id ≡ o = omega arith in
                rw (← same)
                (record { result = refl; mask = refl; mode = refl; there = has.1; owned = owned e; others = others e });
            awaits = λ o h at. absurd (omega (arith, has.0));
          })

      p : ℕ
      p = max (thread m.owner waiting).current (thread c waiting).current

      high : Lawful nobody waiting → p < 8
      high v = omega (arith, v.placed.priorities m.owner, v.placed.priorities c)

      raised : claim_waits q s ≡ true → Lawful nobody waiting → Unchosen (take_priority m.owner p waiting)
      raised e v =
          on-only s
          (new_current-lawful m.owner p waiting v owner (lt-ltb p 8 (high v)) (omega (arith, (v.currents m.owner).least))
          (λ none.
          absurd (true≢false (sym (some_below-from (λ o. owns o m.owner s) 4 q.id has.0
          (both (lt-ltb 0 m.depth (owned e)) (eq-eqb m.owner m.owner refl))) ∙ none))))
          (take_priority-keeps m.owner p waiting (omega (arith, there_below v.placed m.owner owner, v.placed.threads))
          (omega (arith, high v, v.placed.ready))).off
          (untrue (scheduling_off s) (λ h. sym (passed (answers claim q s) 3 refl ok) ∙ both h e))
        where
          owner : (thread m.owner waiting).created ≡ 1
          owner = v.owners q.id (owned e)

      -- it needn't wait

      its_own : claim_waits q s ≡ false → 0 < m.depth → m.owner ≡ c
      its_own e h = eqb-true m.owner c (not-false (eqb m.owner c) (rw (lt-ltb 0 m.depth h) at e))

      room : claim_waits q s ≡ false → m.depth + 1 ≤ 255
      room e =
          elim (ℕ_discrete m.depth 255) [
            | yes full ↦
                let h : 0 < m.depth = omega arith in
                let owns_it : owns q.id c s ≡ true = both (lt-ltb 0 m.depth h) (eq-eqb m.owner c (its_own e h)) in
                absurd (false≢true (sym (passed (answers claim q s) 4 refl ok) ∙ both owns_it (eq-eqb m.depth 255 full)))
            | no n ↦ omega (arith, depth-fits)
          ]

      owning : claim_waits q s ≡ false → Lawful nobody (alter_mutex q.id (λ x. with_owner c (x.depth + 1) x) s)
      owning e =
          mutex-lawful nobody s w q.id (λ x. with_owner c (x.depth + 1) x) has.0
          (record {
            in_range = both (both created-fits (lt-ltb c 16 (there_below w.placed c there))) (le-leb (m.depth + 1) 255 (room e));
            unowned = λ z. absurd (omega arith);
            absent = not-absent has.1;
          })
          (λ h. h) (λ h. there)
          (λ i on. (omega arith, λ same. omega (arith, rw (← same) at on, count_all-at c s.waits (10 + q.id), running-waits s steady runs)))
          (λ h. inl (omega arith, sym (its_own e h)))

      by_test : (b : Bool) → claim_waits q s ≡ b
          → Unchosen (cond b (take_priority m.owner p waiting)
          (alter_thread c (with_result 1) (alter_mutex q.id (λ x. with_owner c (x.depth + 1) x) s)))
      by_test true e = raised e (waiting_lawful e)
      by_test false e =
          kept steady
          (done-lawful c (alter_mutex q.id (λ x. with_owner c (x.depth + 1) x) s) (owning e) (running-ready s steady runs))
          (record { off = refl; chosen = refl; ready = λ x h. h })

  pub release_unchosen : accepted (first-due (answers release q s)) ≡ true → Unchosen (release_effect q s)
  unfolding answers release_effect fall thread_in_range mutex_in_range
  release_unchosen ok = by_test (eqb m.depth 1) refl
    where
      has : (q.id < 4) × (m.created ≡ 1)
      has = named q.id 4 m.created (not-false _ (passed (answers release q s) 0 refl ok))

      runs : nobody_runs s ≡ false
      runs = passed (answers release q s) 2 refl ok

      there : (thread c s).created ≡ 1
      there = running-there s steady runs

      own : owns q.id c s ≡ true
      own = not-false _ (passed (answers release q s) 3 refl ok)

      deep : 0 < m.depth
      deep = ltb-true 0 m.depth (left (ltb 0 m.depth) (eqb m.owner c) own)

      owner : m.owner ≡ c
      owner = eqb-true m.owner c (right (ltb 0 m.depth) (eqb m.owner c) own)

      -- not the last level

      left_over : (m.depth ≡ 1 → ⊥) → 0 < m.depth - 1
      left_over n = omega (arith, deep, n)

      shallower : (m.depth ≡ 1 → ⊥) → Lawful nobody (alter_mutex q.id (λ x. with_owner x.owner (x.depth - 1) x) s)
      shallower n =
          mutex-lawful nobody s w q.id (λ x. with_owner x.owner (x.depth - 1) x) has.0
          (record {
            in_range = both ids_fit (le-leb (m.depth - 1) 255 (omega (arith, depth-fits)));
            unowned = λ e. absurd (omega (arith, e, left_over n));
            absent = not-absent has.1;
          })
          (λ h. h) (λ h. w.owners q.id deep)
          (λ i on. (left_over n, (w.claiming q.id i has.0 on).others))
          (λ h. inl (left_over n, refl))

      -- the last level

      base : is_priority (thread c s).base ≡ true
      base = range (w.threads c) 1

      fallen : State
      fallen = take_priority c (thread c s).base s

      fallen_lawful : Lawful nobody fallen
      fallen_lawful = new_current-lawful c (thread c s).base s w there base (omega arith) (λ none. refl)

      fallen_is : fallen ≡ with_ready fallen.ready (alter_thread c (with_current (thread c s).base) s)
      fallen_is = take_priority-ready c (thread c s).base s (running-ready s steady runs) (running-waits s steady runs)

      fallen_mutex : mutex q.id fallen ≡ m
      fallen_mutex = ap (λ (t : State). mutex q.id t) fallen_is

      fallen_thread : thread c fallen ≡ with_current (thread c s).base (thread c s)
      fallen_thread = ap (λ (t : State). thread c t) fallen_is ∙ sym (record_altered w c there (with_current (thread c s).base))

      level : (thread (mutex q.id fallen).owner fallen).current ≡ (thread (mutex q.id fallen).owner fallen).base
      level = rw (fallen_mutex, owner, fallen_thread) refl

      still : (mutex q.id fallen).created ≡ 1
      still = rw fallen_mutex has.1

      waiters : List ℕ
      waiters = list (10 + q.id) s

      by_test : (b : Bool) → eqb m.depth 1 ≡ b
          → Unchosen (cond b (hand_over q.id waiters fallen) (alter_mutex q.id (λ x. with_owner x.owner (x.depth - 1) x) s))
      by_test true e =
          kept steady
          (hand_over-lawful q.id fallen fallen_lawful has.0 still level waiters (ap (λ (t : State). list (10 + q.id) t) fallen_is))
          (keeps_both
          (take_priority-keeps c (thread c s).base s (omega (arith, there_below w.placed c there, w.placed.threads))
          (omega (arith, ltb-true (thread c s).base 8 base, w.placed.ready)))
          (hand_over-keeps q.id fallen fallen_lawful waiters))
      by_test false e = kept steady (shallower (eqb-false m.depth 1 e)) (record { off = refl; chosen = refl; ready = λ x h. h })
