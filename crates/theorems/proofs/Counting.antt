-- The distance worked out from the records is 1 exactly where the coming tick is a wake-up. Where no quantum and no timer ends, the limits
-- are still those of the tick's start when their turn comes.
use mathlib.Core.Path.{◌≡◌, refl, ◌∙◌, ap}
use mathlib.Core.Bool.{Bool, true, false, ◌||◌}
use mathlib.Core.List.{List}
use Prim.Native.Nat.{ℕ}
use native.Mathlib.Omega.{arith}
use lib.Dec.{eqb}
use lib.ListN.{length}
use Rattle.sequences.specs.Lists.{nearer, nearest}
use Rattle.sequences.proofs.Counters.{nearer-one, nearest-one}
use Rattle.model.specs.declared.tables.Thread.{Thread}
use Rattle.model.specs.declared.tables.Timer.{Timer}
use Rattle.model.specs.State.{State, absent_thread, unused_timer, thread_count, timer_count}
use Rattle.model.specs.Sound.{sound}
use Rattle.model.specs.Tick.{quantum_counts, quantum_ends, before_limits, timer_ends, limit_ends, wakes}
use Rattle.model.specs.Time.{next}
use Rattle.theorems.proofs.Choosing.{sound_steady}
use Rattle.theorems.proofs.Skips.{running, running-at, times, limits, spent-limits}
use Rattle.theorems.proofs.Quiet.{half_way, many_half_way, before_limits-quiet}

quantum_ends-one : (s : State) → quantum_ends s ≡ eqb (running s) 1
unfolding quantum_ends
quantum_ends-one s = running-at s 1 (omega arith)

timer_ends-one : (s : State) → length s.timers ≡ timer_count → timer_ends s ≡ eqb (nearest (times s)) 1
unfolding timer_ends
timer_ends-one s many = nearest-one (λ (t : Timer). t.left) unused_timer s.timers timer_count many

limit_ends-one : (s : State) → length s.threads ≡ thread_count → limit_ends s ≡ eqb (nearest (limits s)) 1
unfolding limit_ends
limit_ends-one s many = nearest-one (λ (t : Thread). t.limit) absent_thread s.threads thread_count many

-- the limits matter only where neither a quantum nor a timer ends
either_or : (a b c d : Bool) → (a ≡ false → b ≡ false → c ≡ d) → a || b || c ≡ a || (b || d)
either_or true b c d same = refl
either_or false true c d same = refl
either_or false false c d same = same refl refl

pub wakes-next : (s : State) → sound s ≡ true → wakes s ≡ eqb (next s) 1
unfolding wakes next
wakes-next s whole =
    let time = nearest (times s) in
    let limit = nearest (limits s) in
    either_or (quantum_ends s) (timer_ends s) (limit_ends (before_limits s)) (eqb limit 1) same
    ∙ rw (quantum_ends-one s, timer_ends-one s (sound_steady s whole).lawful.objects.many_timers, nearer-one time limit) (nearer-one (running s) (nearer time limit))
  where
    same : quantum_ends s ≡ false → timer_ends s ≡ false → limit_ends (before_limits s) ≡ eqb (nearest (limits s)) 1
    same no_quantum no-timer =
        ap limit_ends (before_limits-quiet s whole no_quantum no-timer)
        ∙ limit_ends-one (half_way s) (many_half_way s whole)
        ∙ ap (λ (l : List ℕ). eqb (nearest l) 1) (spent-limits (quantum_counts s) 1 s.chosen s.threads)
