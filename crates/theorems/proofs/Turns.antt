-- In a tick a timer or a limit runs out in its own turn exactly where it stood at 1 when the timers' or the limits' step began: the
-- turns of lower ids leave it alone. An action changes no timer, and waking a thread changes no other thread's record.
use mathlib.Core.Path.{◌≡◌, refl, ap, ◌∙◌}
use mathlib.Core.Bool.{Bool, true, false, cond}
use mathlib.Core.List.{List}
use Prim.Native.Nat.{ℕ, ◌<◌}
use native.Mathlib.Omega.{arith}
use lib.Dec.{eqb}
use lib.ListN.{get_or}
use Rattle.sequences.specs.Steps.{in_order}
use Rattle.sequences.proofs.Places.{alter_other}
use Rattle.sequences.proofs.InOrder.{in_order-keeps}
use Rattle.model.specs.declared.tables.Thread.{Thread}
use Rattle.model.specs.declared.tables.Timer.{Timer}
use Rattle.model.specs.State.{State, absent_thread, unused_timer}
use Rattle.model.specs.Parts.{thread, timer}
use Rattle.model.specs.Words.{leave, enter_ready, become_ready, wake}
use Rattle.model.specs.Effects.{act}
use Rattle.model.specs.Tick.{timer_tick, limit_tick, clock_step, quantum_counts, quantum_ends, quantum_step}
use Rattle.theorems.proofs.Retimed.{but-threads, act_retimed}

-- either of two states has the same part
cond-keeps : {A : Type 0} (part : State → A) (b : Bool) {x y : State} {a : A} → part x ≡ a → part y ≡ a → part (cond b x y) ≡ a
cond-keeps part true p q = p
cond-keeps part false p q = q

-- ---- timers

pub act-timers : (kind object mask : ℕ) (s : State) → (act kind object mask s).timers ≡ s.timers
act-timers kind object mask s = ap (λ (x : State). x.timers) (act_retimed (but-threads (λ n. n) (λ ts. s.timers)) kind object mask s)

timer_other : (o k : ℕ) → k < o → (s : State) → timer o (timer_tick k s) ≡ timer o s
unfolding timer_tick
timer_other o k below s =
    cond-keeps (timer o) (eqb (timer k s).left 1)
    (ap (λ (l : List Timer). get_or l o unused_timer) (act-timers (timer k s).kind (timer k s).object (timer k s).mask _)
    ∙ alter_other _ k s.timers o unused_timer (λ e. omega arith))
    (alter_other _ k s.timers o unused_timer (λ e. omega arith))

timer_turn : (o : ℕ) (s : State) → timer o (in_order o timer_tick s) ≡ timer o s
timer_turn o = in_order-keeps timer_tick (timer o) o (timer_other o)

-- step 2 changes no timer either, so that in a tick a timer's turn finds what the tick began with
quantum-timers : (s : State) → (quantum_step s).timers ≡ s.timers
unfolding quantum_step become_ready enter_ready leave
quantum-timers s = cond-keeps (λ (x : State). x.timers) (quantum_ends s) refl (cond-keeps (λ (x : State). x.timers) (quantum_counts s) refl refl)

pub timer_found : (o : ℕ) (s : State) → timer o (in_order o timer_tick (quantum_step (clock_step s))) ≡ timer o s
unfolding clock_step
timer_found o s =
    timer_turn o (quantum_step (clock_step s)) ∙ ap (λ (ts : List Timer). get_or ts o unused_timer) (quantum-timers (clock_step s))

-- ---- limits

limit_other : (i k : ℕ) → k < i → (s : State) → thread i (limit_tick k s) ≡ thread i s
unfolding limit_tick wake become_ready enter_ready leave
limit_other i k below s =
    cond-keeps (thread i) (eqb (thread k s).limit 1)
    (alter_other _ k s.threads i absent_thread (λ e. omega arith))
    (alter_other _ k s.threads i absent_thread (λ e. omega arith))

pub limit_turn : (i : ℕ) (s : State) → (thread i (in_order i limit_tick s)).limit ≡ (thread i s).limit
limit_turn i s = ap (λ (t : Thread). t.limit) (in_order-keeps limit_tick (thread i) i (limit_other i) s)
