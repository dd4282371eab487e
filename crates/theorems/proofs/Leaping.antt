-- A leap is a skip up to its last tick, and then that tick. A skip is a walk over the timers and one over the limits, which takes m off
-- each in its turn. The steps of a tick don't see a counter before their own turn comes to it, so the turns of a skip may wait for them;
-- and m off a counter and then a tick of it is its leap.
use mathlib.Core.Path.{◌≡◌, refl, sym, ◌∙◌, ap, ap₂}
use mathlib.Core.Bool.{Bool, true, false, cond, ◌&&◌}
use mathlib.Core.List.{List, map}
use Prim.Native.Nat.{ℕ, ◌+◌, ◌-◌, ◌<◌}
use native.Mathlib.Nat.{zero-sub}
use native.Mathlib.Omega.{arith}
use borrow.Author.Tests.{eqb-true, eq-eqb}
use lib.Dec.{eqb}
use lib.ListN.{length}
use Rattle.sequences.specs.Lists.{alter}
use Rattle.sequences.specs.Steps.{in_order}
use Rattle.sequences.proofs.Tests.{same_truth}
use Rattle.sequences.proofs.Places.{alter_other, alter-keeps, alter_twice, alter_swap}
use Rattle.sequences.proofs.Changes.{alter_changes}
use Rattle.sequences.proofs.Counters.{less}
use Rattle.sequences.proofs.InOrder.{in_order_held, in_order_both}
use Rattle.model.specs.declared.tables.Thread.{Thread}
use Rattle.model.specs.declared.tables.Timer.{Timer}
use Rattle.model.specs.State.{State, absent_thread, unused_timer, thread_count, timer_count}
use Rattle.model.specs.Parts.{thread, timer, with_threads, with_timers, alter_thread, alter_timer, with_wait, with_time, refilled}
use Rattle.model.specs.Words.{sleeps, become_ready, wake, settle, choose}
use Rattle.model.specs.Effects.{act}
use Rattle.model.specs.Tick.{quantum_counts, quantum_ends, quantum_step, expired, timer_tick, timer_step, limit_tick, limit_step}
use Rattle.theorems.specs.Skip.{left_less, limit_less, time_less, spent, skip, still, still_tick}
use Rattle.theorems.specs.Leap.{spend, quantum_leap, timer_leap, limit_leap, leap}
use Rattle.theorems.proofs.Retimed.{Passes, cond_passes, steps_pass, pass_steps, counts_alike, Retiming, but-threads, quantum_retimed, timer_retimed, limit_retimed}
use Rattle.theorems.proofs.Clock.{tick-rest}
use Rattle.theorems.proofs.Skips.{length-spent, left_more, limit_more, time_more}

module _ (m : ℕ) where
  -- a counter that has m + 1 left is at 1 when it is less m
  ends_later : (n : ℕ) {now : ℕ} {x y x' y' : State} → now ≡ n - m → x ≡ x' → y ≡ y' → cond (eqb now 1) x y ≡ cond (eqb n (m + 1)) x' y'
  ends_later n {now} e =
      cond_passes (λ x. x) (eqb n (m + 1))
      (same_truth (eqb now 1) (eqb n (m + 1)) (λ h. eq-eqb n (m + 1) (omega (arith, eqb-true now 1 h))) (λ h. eq-eqb now 1 (omega (arith, eqb-true n (m + 1) h))))

  -- ---- one timer, or one limit, less m

  abbrev timer_later : ℕ → Retiming
  timer_later j = but-threads (λ n. n) (alter j (time_less m))

  abbrev limit_later : ℕ → Retiming
  limit_later j =
      record {
        clock = λ n. n;
        timers = λ ts. ts;
        threads = alter j (limit_less m);
        m = m;
        keeps = λ p e i ts. alter-keeps p (limit_less m) e j ts i absent_thread;
        passes = λ f e i. alter_swap f (limit_less m) i j (λ s. e);
      }

  -- the same as changes
  abbrev shorten_timer : ℕ → State → State
  shorten_timer j = alter_timer j (time_less m)

  abbrev shorten_limit : ℕ → State → State
  shorten_limit j = alter_thread j (limit_less m)

  -- and all of them
  abbrev timers_later : State → State
  timers_later = in_order timer_count shorten_timer

  abbrev limits_later : State → State
  limits_later = in_order thread_count shorten_limit

  skip_walks : (s : State) → length s.timers ≡ timer_count → length s.threads ≡ thread_count → skip m s ≡ limits_later (timers_later (spend m s))
  unfolding skip spend
  skip_walks s timers threads =
      let x = spend m s in
      let many : length x.threads ≡ thread_count = length-spent (quantum_counts s) m s.chosen s.threads ∙ threads in
      in_order_held (limit_less m) shorten_limit (λ (ts : List Thread). with_threads ts (with_timers (map (time_less m) s.timers) x))
      (λ i ts. refl) thread_count x.threads (omega arith)
      ∙ ap limits_later (in_order_held (time_less m) shorten_timer (λ (ts : List Timer). with_timers ts x) (λ o ts. refl) timer_count s.timers (omega arith))

  -- ---- 2

  quantum_later : (s : State) → quantum_step (spend m s) ≡ quantum_leap (m + 1) s
  unfolding quantum_step quantum_ends spend quantum_leap
  quantum_later s = by_test (quantum_counts s) refl
    where
      i : ℕ
      i = s.chosen

      ts : List Thread
      ts = s.threads

      by_test : (b : Bool) → quantum_counts s ≡ b → quantum_step (with_threads (spent b m i ts) s)
          ≡ cond (b && eqb (thread i s).left (m + 1)) (become_ready i (alter_thread i refilled s)) (with_threads (spent b (m + 1) i ts) s)
      by_test true e =
          let counts : quantum_counts (alter_thread i (left_less m) s) ≡ true
          = counts_alike (alter i (left_less m) ts) s (alter-keeps (λ (t : Thread). t.quantum) (left_less m) (λ t. refl) i ts i absent_thread)
          (alter-keeps (λ (t : Thread). t.current) (left_less m) (λ t. refl) i ts i absent_thread) ∙ e in
          rw counts
          (ends_later (thread i s).left (alter_changes (λ (t : Thread). t.left) (left_less m) (less m) (λ t. refl) i ts absent_thread (sym (zero-sub m)))
          (ap (λ (ts : List Thread). become_ready i (with_threads ts s)) (alter_twice refilled (left_less m) i ts))
          (ap (λ (ts : List Thread). with_threads ts s) (alter_twice (left_less 1) (left_less m) i ts ∙ ap (λ (g : Thread → Thread). alter i g ts) (left_more m 1))))
      by_test false e = rw e

  -- ---- 3

  timer_later_tick : (o : ℕ) (s : State) → timer_tick o (shorten_timer o s) ≡ timer_leap (m + 1) o s
  unfolding timer_tick timer_leap
  timer_later_tick o s =
      let ts = s.timers in
      let t = timer o s in
      let now : timer o (shorten_timer o s) ≡ time_less m t
      = alter_changes (λ t. t) (time_less m) (time_less m) (λ t. refl) o ts unused_timer (ap (λ n. with_time n 0 unused_timer) (sym (zero-sub m))) in
      ends_later t.left (ap (λ (t : Timer). t.left) now)
      (ap₂ (λ (t : Timer) (ts : List Timer). act t.kind t.object t.mask (with_timers ts s)) now (alter_twice expired (time_less m) o ts))
      (ap (λ (ts : List Timer). with_timers ts s) (alter_twice (time_less 1) (time_less m) o ts ∙ ap (λ (g : Timer → Timer). alter o g ts) (time_more m 1)))

  timers-leap : (s : State) → timer_step (timers_later s) ≡ in_order timer_count (timer_leap (m + 1)) s
  unfolding timer_step
  timers-leap =
      in_order_both timer_tick shorten_timer (timer_leap (m + 1)) timer_later_tick
      (λ k j below.
      timer_retimed (timer_later j) k (λ ts. alter_other (time_less m) j ts k unused_timer (λ e. omega arith))
      (λ f ts. alter_swap f (time_less m) k j (λ e. absurd (omega arith)) ts))
      timer_count

  -- ---- 4

  limit_later_tick : (i : ℕ) (s : State) → limit_tick i (shorten_limit i s) ≡ limit_leap (m + 1) i s
  unfolding limit_tick limit_leap wake
  limit_later_tick i s =
      let ts = s.threads in
      ends_later (thread i s).limit (alter_changes (λ (t : Thread). t.limit) (limit_less m) (less m) (λ t. refl) i ts absent_thread (sym (zero-sub m)))
      (ap (λ (ts : List Thread). become_ready i (with_threads ts s)) (alter_twice (with_wait 0 (cond (sleeps i s) 1 2) 0 0) (limit_less m) i ts))
      (ap (λ (ts : List Thread). with_threads ts s) (alter_twice (limit_less 1) (limit_less m) i ts ∙ ap (λ (g : Thread → Thread). alter i g ts) (limit_more m 1)))

  limits-leap : (s : State) → limit_step (limits_later s) ≡ in_order thread_count (limit_leap (m + 1)) s
  unfolding limit_step
  limits-leap =
      in_order_both limit_tick shorten_limit (limit_leap (m + 1)) limit_later_tick
      (λ k j below.
      limit_retimed (limit_later j) k
      (λ ts. ap (λ (t : Thread). t.limit) (alter_other (limit_less m) j ts k absent_thread (λ e. omega arith))))
      thread_count

  -- ---- the whole

  -- the timers see no limit
  timer_step_passes : (j : ℕ) → Passes (shorten_limit j) timer_step
  unfolding timer_step
  timer_step_passes j = steps_pass (shorten_limit j) timer_tick timer_count (λ o. timer_retimed (limit_later j) o (λ ts. refl) (λ f ts. refl))

  leap-steps : (s : State) → limit_step (timer_step (quantum_step (limits_later (timers_later (spend m s)))))
      ≡ in_order thread_count (limit_leap (m + 1)) (in_order timer_count (timer_leap (m + 1)) (quantum_leap (m + 1) s))
  leap-steps s =
      let q = quantum_leap (m + 1) s in
      let quantum : quantum_step (limits_later (timers_later (spend m s))) ≡ limits_later (timers_later q)
      = pass_steps shorten_limit quantum_step thread_count (λ j. quantum_retimed (limit_later j)) (timers_later (spend m s))
      ∙ ap limits_later (pass_steps shorten_timer quantum_step timer_count (λ j. quantum_retimed (timer_later j)) (spend m s) ∙ ap timers_later (quantum_later s)) in
      let timers : timer_step (limits_later (timers_later q)) ≡ limits_later (in_order timer_count (timer_leap (m + 1)) q)
      = pass_steps shorten_limit timer_step thread_count timer_step_passes (timers_later q) ∙ ap limits_later (timers-leap q) in
      ap (λ (x : State). limit_step (timer_step x)) quantum ∙ ap limit_step timers ∙ limits-leap (in_order timer_count (timer_leap (m + 1)) q)

  leap_later : (s : State) → length s.timers ≡ timer_count → length s.threads ≡ thread_count
      → still (leap (m + 1) s) ≡ still_tick (skip m (still s))
  unfolding leap settle still_tick skip quantum_counts
  leap_later s timers threads =
      sym
      (ap still (tick-rest 0 (skip m s))
      ∙ ap (λ (x : State). still (choose (limit_step (timer_step (quantum_step x))))) (skip_walks s timers threads)
      ∙ ap (λ (x : State). still (choose x)) (leap-steps s))

pub leap-still : (s : State) (gap : ℕ) → 0 < gap → length s.timers ≡ timer_count → length s.threads ≡ thread_count
    → still (leap gap s) ≡ still_tick (skip (gap - 1) (still s))
leap-still s gap some timers threads =
    let e : gap ≡ gap - 1 + 1 = omega arith in
    ap (λ (n : ℕ). still (leap n s)) e ∙ leap_later (gap - 1) s timers threads
