-- By one tick each part of a leap is the model's step, and the whole is a tick but for its clock.
use mathlib.Core.Path.{◌≡◌, refl, ◌∙◌, ap}
use mathlib.Core.Bool.{Bool, true, false, cond, ◌&&◌}
use Prim.Native.Nat.{ℕ, ◌-◌}
use lib.Dec.{eqb}
use Rattle.sequences.specs.Steps.{in_order}
use Rattle.sequences.proofs.InOrder.{in_order_image}
use Rattle.model.specs.State.{State, thread_count, timer_count}
use Rattle.model.specs.Parts.{thread, with_threads, alter_thread, with_left}
use Rattle.model.specs.Words.{settle, choose}
use Rattle.model.specs.Tick.{clock_step, quantum_counts, quantum_ends, quantum_step, timer_tick, timer_step, limit_tick, limit_step, before_limits, tick}
use Rattle.theorems.specs.Skip.{spent}
use Rattle.theorems.specs.Leap.{spend, quantum_leap, timer_leap, limit_leap, leap}

pub quantum_leap-one : (s : State) → quantum_leap 1 s ≡ quantum_step s
unfolding quantum_leap quantum_step quantum_ends spend
quantum_leap-one s = ap (cond (quantum_counts s && eqb (thread s.chosen s).left 1) _) (by_test (quantum_counts s))
  where
    by_test : (b : Bool) → with_threads (spent b 1 s.chosen s.threads) s ≡ cond b (alter_thread s.chosen (λ t. with_left (t.left - 1) t) s) s
    by_test true = refl
    by_test false = refl

pub timer_leap-one : (o : ℕ) (s : State) → timer_leap 1 o s ≡ timer_tick o s
unfolding timer_leap timer_tick
timer_leap-one o s = refl

pub limit_leap-one : (i : ℕ) (s : State) → limit_leap 1 i s ≡ limit_tick i s
unfolding limit_leap limit_tick
limit_leap-one i s = refl

pub leap-one : (s : State) → leap 1 (clock_step s) ≡ tick s
unfolding leap tick before_limits timer_step limit_step
leap-one s =
    let q = quantum_leap 1 (clock_step s) in
    ap (λ (x : State). choose (settle x))
    (in_order_image (limit_leap 1) (λ x. x) limit_tick thread_count (λ i h. limit_leap-one i) (in_order timer_count (timer_leap 1) q)
    ∙ ap (in_order thread_count limit_tick)
    (in_order_image (timer_leap 1) (λ x. x) timer_tick timer_count (λ o h. timer_leap-one o) q
    ∙ ap (in_order timer_count timer_tick) (quantum_leap-one (clock_step s))))
