-- The pass over the timers tests the clauses of soundness that speak of timers: every timer passes all of its tests exactly where each of
-- them passes for every timer.
use mathlib.Core.Path.{◌≡◌}
use mathlib.Core.Bool.{Bool, ◌&&◌}
use mathlib.Core.List.{List, [], ◌∷◌, map}
use Prim.Native.Nat.{ℕ}
use lib.Dec.{eqb, leb}
use lib.ListN.{get_or}
use Rattle.sequences.specs.Lists.{every, every_below, all_true}
use Rattle.model.specs.declared.tables.Table.{Table}
use Rattle.model.specs.State.{State, unused_timer}
use Rattle.model.specs.Parts.{timer}
use Rattle.model.specs.Ranges.{◌implies◌, names_object, action_in_range}
use Rattle.model.specs.Sound.{timer_in_range, zero_timer, timers_within_period, unused_timers_zero, actions_fit}
use Rattle.model.specs.Before.{Rows, view}
use Rattle.table.specs.Objects.{names_one_of}
use Rattle.table.proofs.ByArray.{names_object-one-of}
use Rattle.soundness.specs.Records.{timer_fits}
use Rattle.soundness.specs.Shape.{Shape}
use Rattle.sequences.proofs.Bounds.{every_by_columns}

-- the tests of the clauses at one timer, but for its ranges
abbrev tests : State → List (ℕ → Bool)
tests s =
    (λ o. leb (timer o s).left (timer o s).period)
    ∷ (λ o. eqb (timer o s).period 0 implies zero_timer (timer o s))
    ∷ (λ o. names_object (timer o s).kind (timer o s).object s && action_in_range (timer o s).kind (timer o s).object (timer o s).mask)
    ∷ []

fits_by_tests : (s : State) (o : ℕ) → timer_fits (timer o s) (names_one_of s.semaphores s.flags (timer o s).kind (timer o s).object)
    ≡ timer_in_range (timer o s) && all_true (map (λ (f : ℕ → Bool). f o) (tests s))
unfolding timer_fits
fits_by_tests s o = rw (names_object-one-of (timer o s).kind (timer o s).object s)

pub timers_by_clauses : (t : Table) (rows : Rows) → Shape t rows
    → every_below 8
    (λ o.
    timer_fits (get_or t.timers o unused_timer)
    (names_one_of t.semaphores t.flags (get_or t.timers o unused_timer).kind (get_or t.timers o unused_timer).object))
    ≡ all_true
    (every timer_in_range (view t rows).timers
    ∷ timers_within_period (view t rows)
    ∷ unused_timers_zero (view t rows)
    ∷ actions_fit (view t rows)
    ∷ [])
unfolding view timers_within_period unused_timers_zero actions_fit
timers_by_clauses t rows w =
    every_by_columns timer_in_range unused_timer t.timers 8 _ (tests (view t rows)) w.timers (λ o h. fits_by_tests (view t rows) o)
