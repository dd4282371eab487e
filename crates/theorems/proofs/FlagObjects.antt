-- Calls 15 to 18 leave a lawful table in which the choice can be made. Where a word changes, waking those it concerns comes to the same
-- before and after the change: woken first, nobody is left on the list whose condition the new word meets, and then the word may change.
use mathlib.Core.Path.{◌≡◌, refl, sym, ◌∙◌, ap, subst}
use mathlib.Core.Bool.{Bool, true, false, cond, ◌&&◌}
use mathlib.Core.List.{List, [], ◌∷◌}
use Prim.Native.Nat.{ℕ, ◌-◌, ◌^◌, ◌<◌, ◌≤◌}
use native.Mathlib.Omega.{arith}
use borrow.Author.Tests.{lt-ltb, ltb-true, leb-true, leb-false, le-leb, not-true, not-false, eq-eqb}
use lib.Dec.{eqb, leb, ltb}
use lib.Bits.{bit_and, bit_or, or_lt}
use lib.ListN.{get_or, get_or-map}
use Rattle.sequences.specs.Lists.{alter, count, without}
use Rattle.sequences.proofs.Tests.{both, left, right, untrue}
use Rattle.sequences.proofs.Places.{alter_other, alter-keeps, alter_twice}
use Rattle.sequences.proofs.Counts.{count_all-at, count_gone, count_other, count_split, count-only}
use Rattle.sequences.proofs.Members.{counted-left}
use Rattle.model.specs.declared.requests.Request.{Request}
use Rattle.model.specs.declared.tables.Thread.{Thread}
use Rattle.model.specs.declared.tables.Flags.{Flags}
use Rattle.model.specs.State.{State, nobody, absent_thread, absent_flags, flags_list}
use Rattle.model.specs.Parts.{thread, flag_object, list, alter_thread, alter_flags, with_threads, with_wait, with_result, with_delivered, with_word}
use Rattle.model.specs.Ranges.{is_bit, fits_16, is_positive_16, fits_32}
use Rattle.model.specs.Words.{leave, enter_ready, enter_by_priority, become_ready, wake, suspend, start_to_wait, holds}
use Rattle.model.specs.Sound.{flags_in_range}
use Rattle.model.specs.Answers.{accepted, first-due}
use Rattle.model.specs.Calls.{answers, create_flags, wait, set, clear, nobody_runs, scheduling_off, unused_bcd, wait_waits}
use Rattle.model.specs.Effects.{create_flags_effect, wait_effect, wake_each, met, change_word, set_flags, set_effect, clear_effect}
use Rattle.theorems.specs.Lawful.{ThreadFits, Waiting, Lawful, Keeps, Steady, Unchosen}
use Rattle.theorems.proofs.Fits.{fits-wait, fits-delivered, fits-result}
use Rattle.theorems.proofs.Readings.{flags_below}
use Rattle.theorems.proofs.Records.{flags-lawful}
use Rattle.theorems.proofs.Keeping.{not-absent, made_ready, start_to_wait-lawful, altered_lawful, standing-there}
use Rattle.theorems.proofs.Staying.{keeps-none, keeps_both, made_ready-keeps}
use Rattle.theorems.proofs.Passed.{passed}
use Rattle.theorems.proofs.Running.{kept, on-only, running-there, named, running-waits, unset}

-- ---- a word delivered, and its waiter woken

abbrev told : ℕ → ℕ → State → State
told word i s = wake i 1 (alter_thread i (with_delivered word) s)

-- both changes of the record at once
abbrev answered : ℕ → Thread → Thread
answered word t = with_wait 0 1 0 0 (with_delivered word t)

told-once : (word i : ℕ) (s : State) → become_ready i (alter_thread i (answered word) s) ≡ told word i s
unfolding wake
told-once word i s =
    sym (ap (λ (l : List Thread). become_ready i (with_threads l s)) (alter_twice (with_wait 0 1 0 0) (with_delivered word) i s.threads))

told-lawful : (word i : ℕ) (s : State) → Lawful nobody s → fits_16 word ≡ true → (thread i s).created ≡ 1 → Lawful nobody (told word i s)
told-lawful word i s w fits there =
    subst (Lawful nobody) (told-once word i s)
    (made_ready i s w there (answered word)
    (fits-wait (fits-delivered (w.threads i) word fits (not-absent there)) 0 1 0 0 refl refl refl refl (not-absent there))
    (w.currents i) there (record { limit = refl; mask = refl; mode = refl }))

told-keeps : (word i : ℕ) (s : State) → Lawful nobody s → Keeps s (told word i s)
told-keeps word i s w = subst (Keeps s) (told-once word i s) (made_ready-keeps i s w (answered word) (λ t. refl))

told-created : (word i : ℕ) (s : State) (x : ℕ) → (thread x (told word i s)).created ≡ (thread x s).created
unfolding wake become_ready enter_ready leave
told-created word i s x =
    alter-keeps (λ (t : Thread). t.created) (with_wait 0 1 0 0) (λ t. refl) i (alter i (with_delivered word) s.threads) x absent_thread
    ∙ alter-keeps (λ (t : Thread). t.created) (with_delivered word) (λ t. refl) i s.threads x absent_thread

-- who is still on a numbered list was there before, isn't the one woken, and has its old record
told-left : (word i : ℕ) (s : State) (j x : ℕ) → 0 < count x (list j (told word i s))
    → (0 < count x (list j s)) × (x ≡ i → ⊥) × (thread x (told word i s) ≡ thread x s)
unfolding wake become_ready enter_ready leave
told-left word i s j x on = (counted-left i x j s.waits on, other, same)
  where
    other : x ≡ i → ⊥
    other e = omega (arith, rw (e, get_or-map (without i) s.waits j []) at on, count_gone i (list j s))

    same : thread x (told word i s) ≡ thread x s
    same =
        alter_other (with_wait 0 1 0 0) i (alter i (with_delivered word) s.threads) x absent_thread other
        ∙ alter_other (with_delivered word) i s.threads x absent_thread other

-- ---- the same for all of a list

module _ (word : ℕ) where
  each-lawful : fits_16 word ≡ true → (l : List ℕ) (s : State) → Lawful nobody s → ((x : ℕ) → 0 < count x l → (thread x s).created ≡ 1)
      → Lawful nobody (wake_each word l s) × Keeps s (wake_each word l s)
  unfolding wake_each
  each-lawful fits [] s w there = (w, keeps-none s)
  each-lawful fits (i ∷ l) s w there =
      let first = told-lawful word i s w fits (there i (rw (eq-eqb i i refl) (omega arith))) in
      let rest = each-lawful fits l (told word i s) first (λ x h. told-created word i s x ∙ there x (omega arith)) in
      (rest.0, keeps_both (told-keeps word i s w) rest.1)

  each_left : (l : List ℕ) (s : State) (j x : ℕ) → 0 < count x (list j (wake_each word l s))
      → (0 < count x (list j s)) × (count x l ≡ 0) × (thread x (wake_each word l s) ≡ thread x s)
  unfolding wake_each
  each_left [] s j x on = (on, refl, refl)
  each_left (i ∷ l) s j x on =
      let rest = each_left l (told word i s) j x on in
      let first = told-left word i s j x rest.0 in
      (first.0, omega (arith, count_other x i first.1, rest.1), rest.2 ∙ first.2)

  -- waking neither reads nor writes a flag object
  each_beside : (o : ℕ) (g : Flags → Flags) (l : List ℕ) (s : State) → alter_flags o g (wake_each word l s) ≡ wake_each word l (alter_flags o g s)
  unfolding wake_each wake become_ready enter_ready leave
  each_beside o g [] s = refl
  each_beside o g (i ∷ l) s = each_beside o g l (told word i s)

  each_flags : (l : List ℕ) (s : State) → (wake_each word l s).flags ≡ s.flags
  unfolding wake_each wake become_ready enter_ready leave
  each_flags [] s = refl
  each_flags (i ∷ l) s = each_flags l (told word i s)

-- ---- a word changed

module _ (o word : ℕ) (s : State) (w : Lawful nobody s) (there : (flag_object o s).created ≡ 1) (fits : fits_16 word ≡ true) where
  abbrev woken : List ℕ
  woken = met word (list (flags_list o) s) s

  abbrev awake : State
  awake = wake_each word woken s

  awake_lawful : Lawful nobody awake × Keeps s awake
  awake_lawful =
      each-lawful word fits woken s w
      (λ x h.
      let listed = count_split (λ i. holds (thread i s).mode (thread i s).mask word) x (list (flags_list o) s) in
      standing-there w x (omega (arith, listed, count_all-at x s.waits (flags_list o))))

  unmet : (i : ℕ) → 0 < count i (list (flags_list o) awake) → holds (thread i awake).mode (thread i awake).mask word ≡ false
  unmet i on =
      let was = each_left word woken s (flags_list o) i on in
      rw was.2
      (untrue (holds (thread i s).mode (thread i s).mask word)
      (λ e.
      let listed = count-only (λ x. holds (thread x s).mode (thread x s).mask word) i (list (flags_list o) s) e in
      absurd (omega (arith, was.0, was.1))))

  pub change_word-lawful : Lawful nobody (change_word o word s)
  unfolding change_word flags_in_range
  change_word-lawful =
      subst (Lawful nobody) (each_beside word o (with_word word) woken s)
      (flags-lawful nobody awake awake_lawful.0 o (with_word word) (flags_below o s w.objects.many_flags there)
      (record { in_range = both (ap is_bit still) fits; absent = not-absent still }) (λ e. e) unmet)
    where
      still : (flag_object o awake).created ≡ 1
      still = ap (λ (l : List Flags). (get_or l o absent_flags).created) (each_flags word woken s) ∙ there

  pub change_word-keeps : Keeps s (change_word o word s)
  unfolding change_word
  change_word-keeps =
      let k = awake_lawful.1 in
      subst (Keeps s) (each_beside word o (with_word word) woken s) (record { off = k.off; chosen = k.chosen; ready = k.ready })

word_fits : (o : ℕ) (s : State) → Lawful nobody s → (flag_object o s).word ≤ 65535
unfolding flags_in_range
word_fits o s w =
    leb-true (flag_object o s).word 65535 (right (is_bit (flag_object o s).created) (fits_16 (flag_object o s).word) (w.objects.flags o).in_range)

module _ (o mask : ℕ) (s : State) (w : Lawful nobody s) (there : (flag_object o s).created ≡ 1) (fits : fits_16 mask ≡ true) where
  united : fits_16 (bit_or (flag_object o s).word mask) ≡ true
  united =
      let word : (flag_object o s).word < 2 ^ 16 = omega (arith, word_fits o s w) in
      let bits : mask < 2 ^ 16 = omega (arith, leb-true mask 65535 fits) in
      le-leb (bit_or (flag_object o s).word mask) 65535 (omega (arith, or_lt 16 (flag_object o s).word mask word bits))

  pub set_flags-lawful : Lawful nobody (set_flags o mask s)
  unfolding set_flags
  set_flags-lawful = change_word-lawful o (bit_or (flag_object o s).word mask) s w there united

  pub set_flags-keeps : Keeps s (set_flags o mask s)
  unfolding set_flags
  set_flags-keeps = change_word-keeps o (bit_or (flag_object o s).word mask) s w there united

-- ---- the calls

module _ (q : Request) (s : State) (steady : Steady s) where
  w : Lawful nobody s
  w = steady.lawful

  pub create_flags_unchosen : accepted (first-due (answers create_flags q s)) ≡ true → Unchosen (create_flags_effect q s)
  unfolding answers create_flags_effect flags_in_range
  create_flags_unchosen ok =
      kept steady
      (flags-lawful nobody s w q.id (λ x. record { created = 1; word = q.a }) below
      (record { in_range = both refl word; absent = not-absent refl }) (λ e. refl)
      (λ i on. not-absent (w.awaiting q.id i below on).there none))
      (record { off = refl; chosen = refl; ready = λ x h. h })
    where
      below : q.id < 4
      below = leb-false 4 q.id (passed (answers create_flags q s) 0 refl ok)

      word : fits_16 q.a ≡ true
      word = left (fits_16 q.a) (unused_bcd q) (not-false _ (passed (answers create_flags q s) 1 refl ok))

      none : (flag_object q.id s).created ≡ 0
      none =
          unset (flag_object q.id s).created
          (left (is_bit (flag_object q.id s).created) (fits_16 (flag_object q.id s).word) (w.objects.flags q.id).in_range)
          (rw (lt-ltb q.id 4 below) at (passed (answers create_flags q s) 2 refl ok))

  pub wait_unchosen : accepted (first-due (answers wait q s)) ≡ true → Unchosen (wait_effect q s)
  unfolding answers wait_effect start_to_wait enter_by_priority suspend leave
  wait_unchosen ok = by_test (wait_waits q s) refl
    where
      c : ℕ
      c = s.chosen

      given : (q.id < 4) × ((flag_object q.id s).created ≡ 1)
      given = named q.id 4 (flag_object q.id s).created (not-false _ (passed (answers wait q s) 0 refl ok))

      runs : nobody_runs s ≡ false
      runs = passed (answers wait q s) 2 refl ok

      there : (thread c s).created ≡ 1
      there = running-there s steady runs

      numbers : is_positive_16 q.a && leb q.b 3 && fits_32 q.c ≡ true
      numbers = left (is_positive_16 q.a && leb q.b 3 && fits_32 q.c) (eqb q.d 0) (not-false _ (passed (answers wait q s) 1 refl ok))

      mask-and-mode : is_positive_16 q.a && leb q.b 3 ≡ true
      mask-and-mode = left (is_positive_16 q.a && leb q.b 3) (fits_32 q.c) numbers

      mask : is_positive_16 q.a ≡ true
      mask = left (is_positive_16 q.a) (leb q.b 3) mask-and-mode

      fits : ThreadFits (with_wait q.c 0 q.a q.b (thread c s))
      fits =
          fits-wait (w.threads c) q.c 0 q.a q.b (right (is_positive_16 q.a && leb q.b 3) (fits_32 q.c) numbers) refl
          (right (ltb 0 q.a) (fits_16 q.a) mask) (right (is_positive_16 q.a) (leb q.b 3) mask-and-mode) (not-absent there)

      delivered : ThreadFits (with_delivered (flag_object q.id s).word (with_result 1 (thread c s)))
      delivered =
          fits-delivered (fits-result (w.threads c) 1 refl (not-absent there)) (flag_object q.id s).word
          (le-leb (flag_object q.id s).word 65535 (word_fits q.id s w)) (not-absent there)

      waiting : wait_waits q s ≡ true → Waiting (flags_list q.id) c (with_wait q.c 0 q.a q.b (thread c s)) s
      waiting e =
          record {
            pends = λ o h same. absurd (omega arith);
            claims = λ o h same. absurd (omega arith);
            awaits = λ o h same.
                let is : o ≡ q.id = omega arith in
                record {
                  result = refl;
                  mask = ltb-true 0 q.a (left (ltb 0 q.a) (fits_16 q.a) mask);
                  unmet = rw is (not-true _ e);
                  there = rw is given.1;
                };
          }

      by_test : (b : Bool) → wait_waits q s ≡ b
          → Unchosen (cond b (start_to_wait (flags_list q.id) c q.c q.a q.b s)
          (alter_thread c (λ t. with_delivered (flag_object q.id s).word (with_result 1 t)) s))
      by_test true e =
          on-only s
          (start_to_wait-lawful c s w there q.c q.a q.b fits (flags_list q.id) (omega arith) (omega (arith, given.0)) (waiting e))
          refl (untrue (scheduling_off s) (λ off. sym (passed (answers wait q s) 3 refl ok) ∙ both off e))
      by_test false e =
          kept steady
          (altered_lawful nobody c (λ t. with_delivered (flag_object q.id s).word (with_result 1 t)) s w delivered refl refl refl refl refl refl
          (λ waits result. absurd (omega (arith, running-waits s steady runs))))
          (record { off = refl; chosen = refl; ready = λ x h. h })

  pub set_unchosen : accepted (first-due (answers set q s)) ≡ true → Unchosen (set_effect q s)
  unfolding answers set_effect
  set_unchosen ok = kept steady (set_flags-lawful q.id q.a s w there mask) (set_flags-keeps q.id q.a s w there mask)
    where
      there : (flag_object q.id s).created ≡ 1
      there = (named q.id 4 (flag_object q.id s).created (not-false _ (passed (answers set q s) 0 refl ok))).1

      mask : fits_16 q.a ≡ true
      mask = right (ltb 0 q.a) (fits_16 q.a) (left (is_positive_16 q.a) (unused_bcd q) (not-false _ (passed (answers set q s) 1 refl ok)))

  pub clear_unchosen : accepted (first-due (answers clear q s)) ≡ true → Unchosen (clear_effect q s)
  unfolding answers clear_effect
  clear_unchosen ok = kept steady (change_word-lawful q.id word s w there fits) (change_word-keeps q.id word s w there fits)
    where
      word : ℕ
      word = (flag_object q.id s).word - bit_and (flag_object q.id s).word q.a

      there : (flag_object q.id s).created ≡ 1
      there = (named q.id 4 (flag_object q.id s).created (not-false _ (passed (answers clear q s) 0 refl ok))).1

      fits : fits_16 word ≡ true
      fits = le-leb word 65535 (omega (arith, word_fits q.id s w))
