-- Many ticks, as 01 has them under One tick and at call 22: one after another; how many are wake-ups; the next wake-up. This is what any
-- faster way to pass the time must equal.
use Rattle.std.specs.Prelude.{◌≡◌, true, false, cond, map, ℕ, zero, suc, ◌<◌}
use Rattle.sequences.specs.Lists.{nearest, nearer}
use Rattle.sequences.specs.Steps.{ticks, wakeups}
use Rattle.model.specs.declared.tables.Thread.{Thread}
use Rattle.model.specs.declared.tables.Timer.{Timer}
use Rattle.model.specs.State.{State}
use Rattle.model.specs.Parts.{thread}
use Rattle.model.specs.Tick.{tick, wakes, quantum_counts}

-- the table after n ticks with no call between
abbrev pub after_ticks : ℕ → State → State
after_ticks n s = ticks tick n s

-- how many of the next n ticks are wake-ups
abbrev pub wakeups_in : ℕ → State → ℕ
wakeups_in n s = wakeups tick wakes n s

-- 01, One tick, on the next wake-up, what a reader believes: the k-th tick from now is one and none before it is; 0 says that none
-- ever is
abbrev pub Next : State → ℕ → Type 0
Next s zero = (j : ℕ) → wakes (after_ticks j s) ≡ false
Next s (suc k) = (wakes (after_ticks k s) ≡ true) × ((j : ℕ) → j < k → wakes (after_ticks j s) ≡ false)

-- the same worked out from the records: the least of what counts down now, or 0
unfoldable pub next : State → ℕ
next s =
    nearer (cond (quantum_counts s) (thread s.chosen s).left 0)
    (nearer (nearest (map (λ (t : Timer). t.left) s.timers))
    (nearest (map (λ (t : Thread). t.limit) s.threads)))
