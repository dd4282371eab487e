-- The clock is nobody's business but its own: what the rest of a tick does, and when it is a wake-up, hangs on no clock. Every word of a
-- tick but the clock's step does the same whatever the clock shows, and leaves it as it was; so ticks may be counted at a clock that
-- stands at 0.
use mathlib.Core.Path.{◌≡◌, refl, sym, ap, ap₂, ◌∙◌}
use mathlib.Core.Bool.{Bool, not, ◌&&◌, ◌||◌}
use Prim.Native.Nat.{ℕ, zero, suc, ◌+◌, ◌^◌, ◌<◌}
use native.Mathlib.Nat.{add-zero, mod-add-mod, mod-eq_of_lt, mod-lt}
use native.Mathlib.Omega.{arith}
use lib.Dec.{eqb}
use Rattle.sequences.specs.Steps.{ticks, wakeups}
use Rattle.sequences.proofs.Repeating.{ticks_image, wakeups_image}
use Rattle.model.specs.State.{State, scheduling_on, timer_count, thread_count}
use Rattle.model.specs.Parts.{with_clock}
use Rattle.model.specs.Words.{settle, choice, choose}
use Rattle.model.specs.Tick.{wrap, clock_step, quantum_counts, quantum_ends, quantum_step, timer_tick, timer_step, limit_tick, limit_step, before_limits, tick, timer_ends, limit_ends, wakes}
use Rattle.model.specs.Time.{after_ticks, wakeups_in, next}
use Rattle.theorems.proofs.Retimed.{Passes, cond_passes, then_passes, steps_pass, Retiming, but-threads, quantum_retimed, timer_retimed, limit_retimed}

-- ---- what hangs on no clock and leaves it

abbrev Timeless : (State → State) → Type 0
Timeless f = (c : ℕ) → Passes (with_clock c) f

abbrev clock-at : ℕ → Retiming
clock-at c = but-threads (λ n. c) (λ ts. ts)

timer-clock : Timeless timer_step
unfolding timer_step
timer-clock c = steps_pass (with_clock c) timer_tick timer_count (λ o. timer_retimed (clock-at c) o (λ ts. refl) (λ f ts. refl))

limit-clock : Timeless limit_step
unfolding limit_step
limit-clock c = steps_pass (with_clock c) limit_tick thread_count (λ i. limit_retimed (clock-at c) i (λ ts. refl))

pub choose-clock : Timeless choose
unfolding choose
choose-clock c s = cond_passes (with_clock c) (scheduling_on s && not (eqb (choice s) s.chosen)) refl refl refl

before-clock : Timeless (λ s. timer_step (quantum_step s))
before-clock c = then_passes (with_clock c) quantum_step timer_step (quantum_retimed (clock-at c)) (timer-clock c)

-- a tick but for its first step
abbrev rest : State → State
rest s = choose (limit_step (timer_step (quantum_step s)))

rest-clock : Timeless rest
rest-clock c =
    then_passes (with_clock c) (λ s. limit_step (timer_step (quantum_step s))) choose
    (then_passes (with_clock c) (λ s. timer_step (quantum_step s)) limit_step (before-clock c) (limit-clock c)) (choose-clock c)

-- ---- a tick

pub tick-rest : (c : ℕ) (s : State) → tick (with_clock c s) ≡ with_clock (wrap (c + 1)) (rest s)
unfolding tick before_limits clock_step settle
tick-rest c s = rest-clock (wrap (c + 1)) s

pub tick-clock : (c : ℕ) (s : State) → tick (with_clock c s) ≡ with_clock (wrap (c + 1)) (tick s)
tick-clock c s = tick-rest c s ∙ ap (with_clock (wrap (c + 1))) (sym (tick-rest s.clock s))

pub tick_time : (s : State) → (tick s).clock ≡ wrap (s.clock + 1)
tick_time s = ap (λ (x : State). x.clock) (tick-rest s.clock s)

pub wakes-clock : (c : ℕ) (s : State) → wakes (with_clock c s) ≡ wakes s
unfolding wakes quantum_ends quantum_counts timer_ends limit_ends before_limits clock_step
wakes-clock c s = ap limits_too (before-clock (wrap (c + 1)) s) ∙ sym (ap limits_too (before-clock (wrap (s.clock + 1)) s))
  where
    limits_too : State → Bool
    limits_too x = quantum_ends s || timer_ends s || limit_ends x

pub next-clock : (c : ℕ) (s : State) → next (with_clock c s) ≡ next s
unfolding next quantum_counts
next-clock c s = refl

-- ---- many ticks

-- n ticks of the clock alone
clock-ticks : (n c : ℕ) → c < 2 ^ 32 → ticks (λ x. wrap (x + 1)) n c ≡ wrap (c + n)
unfolding ticks
clock-ticks zero c fits = sym (mod-eq_of_lt fits) ∙ ap wrap (sym (add-zero c))
clock-ticks (suc n) c fits = clock-ticks n (wrap (c + 1)) (mod-lt (c + 1) (omega arith)) ∙ mod-add-mod (c + 1) (2 ^ 32) n ∙ ap wrap (omega arith)

stopped-tick : (s : State) → with_clock 0 (tick s) ≡ with_clock 0 (tick (with_clock 0 s))
stopped-tick s = ap (with_clock 0) (sym (tick-clock 0 s))

pub ticks-clock : (n : ℕ) (s : State) → s.clock < 2 ^ 32
    → after_ticks n s ≡ with_clock (wrap (s.clock + n)) (ticks (λ x. with_clock 0 (tick x)) n (with_clock 0 s))
ticks-clock n s fits = ap₂ with_clock time others
  where
    time : (after_ticks n s).clock ≡ wrap (s.clock + n)
    time =
        ticks_image (λ x. Unit {0}) tick (λ x o. o) (λ c. wrap (c + 1)) (λ x. x.clock) (λ x o. tick_time x) n s tt
        ∙ clock-ticks n s.clock fits

    others : with_clock 0 (after_ticks n s) ≡ ticks (λ x. with_clock 0 (tick x)) n (with_clock 0 s)
    others = ticks_image (λ x. Unit {0}) tick (λ x o. o) (λ x. with_clock 0 (tick x)) (with_clock 0) (λ x o. stopped-tick x) n s tt

pub wakeups-clock : (n : ℕ) (s : State) → wakeups_in n s ≡ wakeups (λ x. with_clock 0 (tick x)) wakes n (with_clock 0 s)
wakeups-clock n s =
    wakeups_image (λ x. Unit {0}) tick (λ x o. o) (λ x. with_clock 0 (tick x)) (with_clock 0) (λ x o. stopped-tick x)
    wakes wakes (λ x o. sym (wakes-clock 0 x)) n s tt
