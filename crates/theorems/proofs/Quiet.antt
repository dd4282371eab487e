-- A tick that is no wake-up is a skip of one: no counter is at 1, so each of its steps is the plain countdown, and the choice is as it was.
use mathlib.Core.Path.{◌≡◌, refl, sym, ◌∙◌, ap}
use mathlib.Core.Bool.{Bool, true, false, ◌||◌}
use mathlib.Core.List.{List, map}
use Prim.Native.Nat.{◌+◌}
use native.Mathlib.Omega.{arith}
use borrow.Author.Tests.{eq-eqb}
use lib.Dec.{eqb}
use lib.ListN.{length}
use Rattle.sequences.proofs.InOrder.{in_order-map}
use Rattle.sequences.proofs.Tests.{neither}
use Rattle.model.specs.declared.tables.Thread.{Thread}
use Rattle.model.specs.declared.tables.Timer.{Timer}
use Rattle.model.specs.State.{State, scheduling_on, absent_thread, unused_timer, thread_count, timer_count}
use Rattle.model.specs.Parts.{with_clock, with_threads, with_timers}
use Rattle.model.specs.Words.{settle, choice, choose}
use Rattle.model.specs.Sound.{sound}
use Rattle.model.specs.Tick.{wrap, clock_step, quantum_counts, quantum_ends, quantum_step, timer_tick, timer_step, timer_ends, limit_tick, limit_step, limit_ends, before_limits, tick, wakes}
use Rattle.theorems.specs.Skip.{limit_less, time_less, skip, still, still_tick, spent}
use Rattle.theorems.specs.Leap.{spend, quantum_leap}
use Rattle.theorems.proofs.Choosing.{sound_steady, chosen-choice}
use Rattle.theorems.proofs.LeapOne.{quantum_leap-one}
use Rattle.theorems.proofs.Skips.{length-spent}

-- ---- the steps

quantum_step-quiet : (s : State) → quantum_ends s ≡ false
    → quantum_step s ≡ with_threads (spent (quantum_counts s) 1 s.chosen s.threads) s
unfolding quantum_leap quantum_ends spend
quantum_step-quiet s none = sym (quantum_leap-one s) ∙ rw none

timer_step-quiet : (s : State) → length s.timers ≡ timer_count → timer_ends s ≡ false
    → timer_step s ≡ with_timers (map (time_less 1) s.timers) s
unfolding timer_step timer_tick timer_ends
timer_step-quiet s many none =
    in_order-map (time_less 1) unused_timer (λ (t : Timer). eqb t.left 1) timer_tick (λ (ts : List Timer). with_timers ts s)
    (λ o ts e. rw e) timer_count s.timers (omega arith) none

limit_step-quiet : (s : State) → length s.threads ≡ thread_count → limit_ends s ≡ false
    → limit_step s ≡ with_threads (map (limit_less 1) s.threads) s
unfolding limit_step limit_tick limit_ends
limit_step-quiet s many none =
    in_order-map (limit_less 1) absent_thread (λ (t : Thread). eqb t.limit 1) limit_tick (λ (ts : List Thread). with_threads ts s)
    (λ i ts e. rw e) thread_count s.threads (omega arith) none

pub choose-quiet : (s : State) → (scheduling_on s ≡ true → s.chosen ≡ choice s) → choose s ≡ s
unfolding choose
choose-quiet s same = by_test (scheduling_on s) refl
  where
    by_test : (b : Bool) → scheduling_on s ≡ b → choose s ≡ s
    by_test true on = rw (on, eq-eqb (choice s) s.chosen (sym (same on)))
    by_test false off = rw off

-- ---- the tick

-- the clock, the running quantum and the timers one tick on, the limits not yet
abbrev pub half_way : State → State
half_way s =
    with_clock (wrap (s.clock + 1))
    (with_threads (spent (quantum_counts s) 1 s.chosen s.threads) (with_timers (map (time_less 1) s.timers) s))

pub many_half_way : (s : State) → sound s ≡ true → length (half_way s).threads ≡ thread_count
many_half_way s whole = length-spent (quantum_counts s) 1 s.chosen s.threads ∙ (sound_steady s whole).lawful.placed.threads

pub before_limits-quiet : (s : State) → sound s ≡ true → quantum_ends s ≡ false → timer_ends s ≡ false → before_limits s ≡ half_way s
unfolding before_limits clock_step quantum_counts quantum_ends timer_ends
before_limits-quiet s whole no_quantum no-timer =
    ap timer_step (quantum_step-quiet (clock_step s) no_quantum)
    ∙ timer_step-quiet (with_threads (spent (quantum_counts s) 1 s.chosen s.threads) (clock_step s)) (sound_steady s whole).lawful.objects.many_timers no-timer

pub quiet-tick : (s : State) → sound s ≡ true → wakes s ≡ false → tick s ≡ with_clock (wrap (s.clock + 1)) (skip 1 s)
unfolding tick wakes skip settle
quiet-tick s whole none =
    let ends = neither (quantum_ends s || timer_ends s) (limit_ends (before_limits s)) none in
    let first = neither (quantum_ends s) (timer_ends s) ends.0 in
    let before = before_limits-quiet s whole first.0 first.1 in
    ap (λ (x : State). choose (limit_step x)) before
    ∙ ap choose (limit_step-quiet (half_way s) (many_half_way s whole) (rw before at ends).1)
    ∙ choose-quiet (with_clock (wrap (s.clock + 1)) (skip 1 s)) (chosen-choice s whole)

pub quiet-still : (s : State) → sound s ≡ true → s.clock ≡ 0 → wakes s ≡ false → still_tick s ≡ skip 1 s
unfolding still_tick skip
quiet-still s whole at_zero none = ap still (quiet-tick s whole none) ∙ ap (λ n. with_clock n (skip 1 s)) (sym at_zero)
