-- Calls 19 to 21 leave a lawful table in which the choice can be made; so do a timer's countdown, its expiry and its action.
use mathlib.Core.Path.{◌≡◌, refl, sym, subst}
use mathlib.Core.Bool.{Bool, true, false, cond, ◌&&◌, false≢true}
use Prim.Native.Nat.{ℕ, zero, suc, ◌+◌, ◌-◌, ◌%◌, ◌^◌, ◌<◌, ◌≤◌}
use native.Mathlib.Nat.{mod-lt}
use native.Mathlib.Omega.{arith}
use borrow.Author.Tests.{ltb-true, leb-true, le-leb, not-false}
use lib.Dec.{eqb, ltb}
use Rattle.sequences.specs.Lists.{count}
use Rattle.sequences.proofs.Tests.{both, left, right}
use Rattle.sequences.proofs.Bounds.{all_zero-at}
use Rattle.model.specs.declared.requests.Request.{Request}
use Rattle.model.specs.declared.tables.Timer.{Timer}
use Rattle.model.specs.State.{State, nobody}
use Rattle.model.specs.Parts.{semaphore, flag_object, timer, alter_timer, with_time}
use Rattle.model.specs.Ranges.{is_bit, fits_16, fits_32, is_positive_32, has_semaphore, has_flags, names_object, action_in_range}
use Rattle.model.specs.Sound.{timer_in_range, timer_numbers, zero_timer}
use Rattle.model.specs.Answers.{accepted, first-due}
use Rattle.model.specs.Calls.{answers, kind_of, object_of, start_timer}
use Rattle.model.specs.Effects.{start_timer_effect, stop_timer_effect, scheduling_effect, act}
use Rattle.model.specs.Tick.{wrap, expired}
use Rattle.theorems.specs.Lawful.{TimerFits, Lawful, Keeps, Steady, Unchosen}
use Rattle.theorems.proofs.Records.{off-lawful, timer-lawful}
use Rattle.theorems.proofs.Staying.{keeps-none}
use Rattle.theorems.proofs.Passed.{passed}
use Rattle.theorems.proofs.Running.{kept, named}
use Rattle.theorems.proofs.Semaphores.{post-lawful, post-keeps}
use Rattle.theorems.proofs.FlagObjects.{set_flags-lawful, set_flags-keeps}

-- ---- numbers of 32 bits

pub wrap-fits : (n : ℕ) → fits_32 (wrap n) ≡ true
wrap-fits n = let low : n % 2 ^ 32 < 4294967296 = mod-lt n (omega arith) in le-leb (n % 2 ^ 32) 4294967295 (omega arith)

-- ---- the object of an action

module _ (kind object : ℕ) (s : State) (names : names_object kind object s ≡ true) where
  pub names_semaphore : kind ≡ 1 → (semaphore object s).created ≡ 1
  names_semaphore e =
      let h : has_semaphore object s ≡ true = subst (λ (k : ℕ). names_object k object s ≡ true) e names in
      (named object 8 (semaphore object s).created h).1

  pub names_flags : kind ≡ 2 → (flag_object object s).created ≡ 1
  names_flags e =
      let h : has_flags object s ≡ true = subst (λ (k : ℕ). names_object k object s ≡ true) e names in
      (named object 4 (flag_object object s).created h).1

-- ---- a timer's record

module _ {t : Timer} (f : TimerFits t) where
  numbers : fits_32 t.period && fits_32 t.left && is_bit t.repeat ≡ true
  unfolding timer_in_range
  numbers = left (fits_32 t.period && fits_32 t.left && is_bit t.repeat) (fits_32 t.count) f.in_range

  period_fits : fits_32 t.period ≡ true
  period_fits = left (fits_32 t.period) (fits_32 t.left) (left (fits_32 t.period && fits_32 t.left) (is_bit t.repeat) numbers)

  pub count_fits : fits_32 t.count ≡ true
  unfolding timer_in_range
  count_fits = right (fits_32 t.period && fits_32 t.left && is_bit t.repeat) (fits_32 t.count) f.in_range

  pub fits_time : (rest count : ℕ) → rest ≤ t.period → fits_32 count ≡ true
      → (t.period ≡ 0 → (rest ≡ t.left) × (count ≡ t.count)) → TimerFits (with_time rest count t)
  unfolding timer_in_range
  fits_time rest count within fits unused =
      record {
        in_range =
            both (both (both period_fits (le-leb rest 4294967295 (omega (arith, leb-true t.period 4294967295 period_fits))))
            (right (fits_32 t.period && fits_32 t.left) (is_bit t.repeat) numbers)) fits;
        within = within;
        unused = λ e.
            subst (λ (n : ℕ). zero_timer (with_time n count t) ≡ true) (sym (unused e).0)
            (subst (λ (n : ℕ). zero_timer (with_time t.left n t) ≡ true) (sym (unused e).1) (f.unused e));
        action = f.action;
      }

-- ---- 19 to 21

module _ (q : Request) (s : State) (steady : Steady s) where
  w : Lawful nobody s
  w = steady.lawful

  pub start_timer_unchosen : accepted (first-due (answers start_timer q s)) ≡ true → Unchosen (start_timer_effect q s)
  unfolding answers start_timer_effect timer_in_range
  start_timer_unchosen ok =
      kept steady
      (timer-lawful nobody s w q.id
      (λ t. record { period = q.a; left = q.a; repeat = q.b; kind = kind_of q; object = object_of q; mask = q.d; count = t.count })
      (record {
        in_range = both (both (both period period) repeats) (count_fits (w.objects.timers q.id));
        within = omega arith;
        unused = λ e. absurd (omega (arith, ltb-true 0 q.a (left (ltb 0 q.a) (fits_32 q.a) some)));
        action = right (is_positive_32 q.a && is_bit q.b) (action_in_range (kind_of q) (object_of q) q.d) ranges;
      })
      (names_semaphore (kind_of q) (object_of q) s names) (names_flags (kind_of q) (object_of q) s names))
      (record { off = refl; chosen = refl; ready = λ x h. h })
    where
      names : names_object (kind_of q) (object_of q) s ≡ true
      names = right (ltb q.id 8) (names_object (kind_of q) (object_of q) s) (not-false _ (passed (answers start_timer q s) 0 refl ok))

      ranges : is_positive_32 q.a && is_bit q.b && action_in_range (kind_of q) (object_of q) q.d ≡ true
      ranges = not-false _ (passed (answers start_timer q s) 1 refl ok)

      some : is_positive_32 q.a ≡ true
      some = left (is_positive_32 q.a) (is_bit q.b) (left (is_positive_32 q.a && is_bit q.b) (action_in_range (kind_of q) (object_of q) q.d) ranges)

      period : fits_32 q.a ≡ true
      period = right (ltb 0 q.a) (fits_32 q.a) some

      repeats : is_bit q.b ≡ true
      repeats =
          right (is_positive_32 q.a) (is_bit q.b)
          (left (is_positive_32 q.a && is_bit q.b) (action_in_range (kind_of q) (object_of q) q.d) ranges)

  pub stop_timer_unchosen : Unchosen (stop_timer_effect q s)
  unfolding stop_timer_effect
  stop_timer_unchosen =
      let t : Timer = timer q.id s in
      let f = w.objects.timers q.id in
      kept steady
      (timer-lawful nobody s w q.id (λ t. with_time 0 t.count t)
      (fits_time f 0 t.count (omega arith) (count_fits f) (λ e. (sym (all_zero-at (timer_numbers t) 1 (f.unused e)), refl)))
      (w.objects.posting q.id) (w.objects.setting q.id))
      (record { off = refl; chosen = refl; ready = λ x h. h })

  pub scheduling_unchosen : Unchosen (scheduling_effect q s)
  unfolding scheduling_effect
  scheduling_unchosen =
      record { lawful = off-lawful nobody s w (1 - q.a) (le-leb (1 - q.a) 1 (omega arith)); stands = λ off. steady.stands }

-- ---- a timer's tick

module _ (o : ℕ) (s : State) (w : Lawful nobody s) where
  f : TimerFits (timer o s)
  f = w.objects.timers o

  pub expired-lawful : (timer o s).left ≡ 1 → Lawful nobody (alter_timer o expired s)
  expired-lawful e =
      timer-lawful nobody s w o expired
      (fits_time f (cond (eqb (timer o s).repeat 1) (timer o s).period 0) (wrap ((timer o s).count + 1)) (by_repeat (eqb (timer o s).repeat 1))
      (wrap-fits ((timer o s).count + 1)) (λ z. absurd (omega (arith, f.within))))
      (w.objects.posting o) (w.objects.setting o)
    where
      by_repeat : (b : Bool) → cond b (timer o s).period 0 ≤ (timer o s).period
      by_repeat true = omega arith
      by_repeat false = omega arith

  pub counted_down_lawful : Lawful nobody (alter_timer o (λ t. with_time (t.left - 1) t.count t) s)
  counted_down_lawful =
      timer-lawful nobody s w o (λ t. with_time (t.left - 1) t.count t)
      (fits_time f ((timer o s).left - 1) (timer o s).count (omega (arith, f.within)) (count_fits f) (λ e. (omega (arith, f.within), refl)))
      (w.objects.posting o) (w.objects.setting o)

pub act-lawful : (kind object mask : ℕ) (s : State) → Lawful nobody s → (kind ≡ 1 → (semaphore object s).created ≡ 1) → (kind ≡ 2 → (flag_object object s).created ≡ 1)
    → action_in_range kind object mask ≡ true → Lawful nobody (act kind object mask s) × Keeps s (act kind object mask s)
unfolding act
act-lawful zero object mask s w posts sets fits = (w, keeps-none s)
act-lawful (suc zero) object mask s w posts sets fits = (post-lawful object s w (posts refl), post-keeps object s w (posts refl))
act-lawful (suc (suc zero)) object mask s w posts sets fits =
    let range = right (ltb 0 mask) (fits_16 mask) fits in
    (set_flags-lawful object mask s w (sets refl) range, set_flags-keeps object mask s w (sets refl) range)
act-lawful (suc (suc (suc kind))) object mask s w posts sets fits = absurd (false≢true fits)
