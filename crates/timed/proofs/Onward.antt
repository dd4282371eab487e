-- From step to step limits only end: who still has one had one before, and stands where it stood. So who has a limit goes on to stand on a list
-- that is no ready list, and threads without a limit go on without.
use Rattle.std.proofs.Common.{◌≡◌, ℕ, zero, suc, ◌+◌, ◌<◌, ◌≤◌, Bool, true, false, cond, not, ◌&&◌, eqb, List, [], ◌∷◌, get_or, sym, refl, ap, ◌∙◌, ⊎_elim, arith, eqb-true}
use native.Mathlib.Decide.{dec_lt}
use lib.Bits.{bit_or}
use Rattle.sequences.specs.Lists.{alter, count_all}
use Rattle.sequences.specs.Steps.{in_order}
use Rattle.sequences.proofs.Bounds.{all_zero-at}
use Rattle.sequences.proofs.Counts.{count_all-kept}
use Rattle.sequences.proofs.Highest.{last_head}
use Rattle.sequences.proofs.InOrder.{in_order-holds}
use Rattle.sequences.proofs.Parts.{place_below}
use Rattle.sequences.proofs.Places.{alter_other, alter-holds}
use Rattle.sequences.proofs.Removal.{map-without-none}
use Rattle.model.specs.declared.tables.Thread.{Thread}
use Rattle.model.specs.declared.tables.Timer.{Timer}
use Rattle.model.specs.State.{State, scheduling_on, nobody, absent_thread, unused_timer, thread_count, timer_count, semaphore_list, flags_list}
use Rattle.model.specs.Parts.{thread, timer, flag_object, list, with_threads, with_chosen, alter_thread, alter_timer, alter_flags}
use Rattle.model.specs.Parts.{with_wait, with_delivered, with_word, refilled}
use Rattle.model.specs.Words.{leave, enter_ready, become_ready, sleeps, wake, settle, choice, choose}
use Rattle.model.specs.Effects.{post_to, post_semaphore, wake_each, met, change_word, set_flags, act}
use Rattle.model.specs.Sound.{thread_numbers, sound}
use Rattle.model.specs.Tick.{quantum_counts, expired}
use Rattle.placed.specs.Placed.{Placed}
use Rattle.theorems.specs.Lawful.{Lawful}
use Rattle.theorems.specs.Skip.{left_less, limit_less, time_less, spent}
use Rattle.theorems.specs.Leap.{spend, quantum_leap, expire, timer_leap, run_out, limit_leap}
use Rattle.theorems.proofs.Choosing.{sound_steady}
use Rattle.theorems.proofs.Keeping.{ready-idle}
use Rattle.theorems.proofs.LeapPlaced.{chosen_below}
use Rattle.theorems.proofs.Turns.{act-timers}
use Rattle.timed.specs.Limited.{Limited}
use Rattle.timed.specs.Running.{TimersTo, LimitsFrom}
use Rattle.timed.specs.Turns.{turn_over, take_turns}

pub record Onward (s after : State) : Type 0 where
  pub limit : (i : ℕ) → 0 < (thread i after).limit → 0 < (thread i s).limit
  pub stays : (i : ℕ) → 0 < (thread i after).limit → count_all i after.waits ≡ count_all i s.waits

pub onward-limited : {s after : State} → Onward s after → Limited s → Limited after
onward-limited o l i h = omega (arith, o.stays i h, l i (o.limit i h))

pub onward-from : {from end : ℕ} {s after : State} → Onward s after → LimitsFrom from end s → LimitsFrom from end after
onward-from {from} {end} {s} {after} o l =
    record { order = l.order; most = l.most; before = λ i h. none_yet i (l.before i h); behind = λ i h. none_yet i (l.behind i h) }
  where
    none_yet : (i : ℕ) → (thread i s).limit ≡ 0 → (thread i after).limit ≡ 0
    none_yet i none =
        elim (dec_lt 0 (thread i after).limit) [
          | yes h ↦ absurd (omega (arith, o.limit i h))
          | no h ↦ omega arith
        ]

-- ---- one step after another

onward-none : (s : State) → Onward s s
onward-none s = record { limit = λ i h. h; stays = λ i h. refl }

pub onward_both : {s t after : State} → Onward s t → Onward t after → Onward s after
onward_both a b = record { limit = λ i h. a.limit i (b.limit i h); stays = λ i h. b.stays i h ∙ a.stays i (b.limit i h) }

in_order-onward : (n : ℕ) (f : ℕ → State → State) → ((k : ℕ) (s : State) → Onward s (f k s)) → (s : State) → Onward s (in_order n f s)
in_order-onward n f each s = in_order-holds (Onward s) f n (λ k h r o. onward_both o (each k r)) s (onward-none s)

-- ---- words

-- a change that gives nobody a limit
alter-onward : (i : ℕ) (g : Thread → Thread) (s : State) → (0 < (g (thread i s)).limit → 0 < (thread i s).limit) → Onward s (alter_thread i g s)
alter-onward i g s kept =
    record {
      limit = alter-holds (λ x t. 0 < t.limit → 0 < (thread x s).limit) g i s.threads absent_thread (λ x h. h) kept;
      stays = λ x h. refl;
    }

unlimited : (g : Thread → Thread) → ((t : Thread) → (g t).limit ≡ 0) → (i : ℕ) (l : List Thread) → (get_or (alter i g l) i absent_thread).limit ≡ 0
unlimited g none zero [] = refl
unlimited g none zero (t ∷ l) = none t
unlimited g none (suc i) [] = refl
unlimited g none (suc i) (t ∷ l) = unlimited g none i l

wake-onward : (i result : ℕ) (s : State) → Onward s (wake i result s)
unfolding wake become_ready enter_ready leave
wake-onward i result s =
    record {
      limit = λ x h. rw (alter_other g i s.threads x absent_thread (other x h)) at h;
      stays = λ x h. count_all-kept i x s.waits (λ e. other x h (sym e));
    }
  where
    g : Thread → Thread
    g = with_wait 0 result 0 0

    -- it has none itself
    other : (x : ℕ) → 0 < (get_or (alter i g s.threads) x absent_thread).limit → x ≡ i → ⊥
    other x h e = omega (arith, rw e at h, unlimited g (λ t. refl) i s.threads)

-- ---- 2

-- the running thread is ready, and so on no other list
pub turn_onward : (s : State) → Placed s → quantum_counts s ≡ true → choice s ≡ s.chosen → Onward s (turn_over s)
unfolding turn_over become_ready enter_ready leave
turn_onward s w counts chosen =
    record {
      limit = (alter-onward c refilled s (λ h. h)).limit;
      stays = λ x h. ap (count_all x) (map-without-none c s.waits (omega (arith, w.once c, ready)));
    }
  where
    c : ℕ
    c = s.chosen

    ready : 0 < count_all s.chosen s.ready
    ready =
        ⊎_elim (λ (none : choice s ≡ nobody). absurd (omega (arith, none, chosen, chosen_below s w counts)))
        (λ (h : 0 < count_all (choice s) s.ready). rw chosen at h) (last_head s.ready nobody)

pub quantum-onward : (gap : ℕ) (s : State) → Placed s → (quantum_counts s ≡ true → choice s ≡ s.chosen) → Onward s (quantum_leap gap s)
unfolding quantum_leap spend turn_over
quantum-onward gap s w chosen = by_test (quantum_counts s) refl (eqb (thread s.chosen s).left gap)
  where
    by_test : (a : Bool) → quantum_counts s ≡ a → (b : Bool)
        → Onward s
        (cond (a && b) (become_ready s.chosen (alter_thread s.chosen refilled s)) (with_threads (spent a gap s.chosen s.threads) s))
    by_test true counts true = turn_onward s w counts (chosen counts)
    by_test true counts false = alter-onward s.chosen (left_less gap) s (λ h. h)
    by_test false e b = onward-none s

-- ---- 3

post_to-onward : (o : ℕ) (l : List ℕ) (s : State) → Onward s (post_to o l s)
unfolding post_to
post_to-onward o [] s = record { limit = λ x h. h; stays = λ x h. refl }
post_to-onward o (i ∷ l) s = wake-onward i 1 s

wake_each-onward : (word : ℕ) (l : List ℕ) (s : State) → Onward s (wake_each word l s)
unfolding wake_each
wake_each-onward word [] s = onward-none s
wake_each-onward word (i ∷ l) s =
    let told = alter_thread i (with_delivered word) s in
    onward_both (alter-onward i (with_delivered word) s (λ h. h)) (onward_both (wake-onward i 1 told) (wake_each-onward word l (wake i 1 told)))

change_word-onward : (o word : ℕ) (s : State) → Onward s (change_word o word s)
unfolding change_word
change_word-onward o word s =
    let changed = wake_each-onward word (met word (list (flags_list o) s) s) (alter_flags o (with_word word) s) in
    record { limit = changed.limit; stays = changed.stays }

act-onward : (kind object mask : ℕ) (s : State) → Onward s (act kind object mask s)
unfolding act post_semaphore set_flags
act-onward zero object mask s = onward-none s
act-onward (suc zero) object mask s = post_to-onward object (list (semaphore_list object) s) s
act-onward (suc (suc kind)) object mask s = change_word-onward object (bit_or (flag_object object s).word mask) s

timer-onward : (t o : ℕ) (s : State) → Onward s (timer_leap t o s)
unfolding timer_leap
timer-onward t o s = by_test (eqb (timer o s).left t)
  where
    by_test : (b : Bool) → Onward s (cond b (expire o s) (alter_timer o (time_less t) s))
    by_test true =
        let acted = act-onward (timer o s).kind (timer o s).object (timer o s).mask (alter_timer o expired s) in
        record { limit = acted.limit; stays = acted.stays }
    by_test false = record { limit = λ x h. h; stays = λ x h. refl }

pub timers-onward : (t : ℕ) (s : State) → Onward s (in_order timer_count (timer_leap t) s)
timers-onward t s = in_order-onward timer_count (timer_leap t) (timer-onward t) s

-- ---- 4

pub limit-onward : (t i : ℕ) (s : State) → Onward s (limit_leap t i s)
unfolding limit_leap
limit-onward t i s = by_test (eqb (thread i s).limit t)
  where
    by_test : (b : Bool) → Onward s (cond b (run_out i s) (alter_thread i (limit_less t) s))
    by_test true = wake-onward i (cond (sleeps i s) 1 2) s
    by_test false = alter-onward i (limit_less t) s (λ h. omega arith)

pub limits-onward : (t : ℕ) (s : State) → Onward s (in_order thread_count (limit_leap t) s)
limits-onward t s = in_order-onward thread_count (limit_leap t) (limit-onward t) s

-- ---- 5, and what begins with it

pub choose-onward : (s : State) → Onward s (choose s)
unfolding choose
choose-onward s = by_test (scheduling_on s && not (eqb (choice s) s.chosen))
  where
    by_test : (b : Bool) → Onward s (cond b (with_chosen (choice s) (alter_thread (choice s) refilled s)) s)
    by_test true = let renewed = alter-onward (choice s) refilled s (λ h. h) in record { limit = renewed.limit; stays = renewed.stays }
    by_test false = onward-none s

pub taken_onward : (s : State) → Placed s → quantum_counts s ≡ true → choice s ≡ s.chosen → Onward s (take_turns s)
unfolding take_turns settle
taken_onward s w counts chosen = onward_both (turn_onward s w counts chosen) (choose-onward (turn_over s))

-- every sound table is so
pub sound-limited : (s : State) → sound s ≡ true → Limited s
sound-limited s whole i limited =
    elim (dec_lt 0 (count_all i s.waits)) [
      | yes h ↦ h
      | no h ↦ absurd (omega (arith, limited, (ready-idle w i (omega (arith, h, there))).limit))
    ]
  where
    w : Lawful nobody s
    w = (sound_steady s whole).lawful

    below : i < 16
    below = omega (arith, w.placed.threads, place_below (λ (t : Thread). t.limit) absent_thread s.threads refl i limited)

    -- who isn't there has no limit, and who is stands on a list
    there : 0 < count_all i s.ready + count_all i s.waits
    there =
        elim (dec_lt 0 (thread i s).created) [
          | yes h ↦ omega (arith, h, w.once i (λ e. omega (arith, e, below)))
          | no h ↦
              let none : (thread i s).created ≡ 0 = omega (arith, h) in
              absurd (omega (arith, limited, all_zero-at (thread_numbers (thread i s)) 5 ((w.threads i).absent none)))
        ]

-- ---- timers

-- a timer that stands at 0 doesn't run out
timer_to : (end t k : ℕ) (s : State) → 0 < t → TimersTo end s → TimersTo end (timer_leap t k s)
unfolding timer_leap
timer_to end t k s some w = by_test (eqb (timer k s).left t) refl
  where
    by_test : (b : Bool) → eqb (timer k s).left t ≡ b → TimersTo end (cond b (expire k s) (alter_timer k (time_less t) s))
    by_test true e =
        let runs : k < end = elim (dec_lt k end) [
          | yes h ↦ h
          | no h ↦ absurd (omega (arith, some, eqb-true (timer k s).left t e, w.behind k (omega (arith, h))))
        ] in
        let same = act-timers (timer k s).kind (timer k s).object (timer k s).mask (alter_timer k expired s) in
        record {
          most = w.most;
          behind = λ o h.
              ap (λ (l : List Timer). (get_or l o unused_timer).left) same
              ∙ ap (λ (x : Timer). x.left) (alter_other expired k s.timers o unused_timer (λ e. omega (arith, e, h, runs)))
              ∙ w.behind o h;
        }
    by_test false e =
        record {
          most = w.most;
          behind =
              alter-holds (λ o x. end ≤ o → x.left ≡ 0) (time_less t) k s.timers unused_timer w.behind (λ h. omega (arith, w.behind k h));
        }

pub timers_to : (end t : ℕ) (s : State) → 0 < t → TimersTo end s → TimersTo end (in_order timer_count (timer_leap t) s)
timers_to end t s some w = in_order-holds (TimersTo end) (timer_leap t) timer_count (λ k h r. timer_to end t k r some) s w
