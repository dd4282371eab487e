-- Demand 3, in the model: an advance is its single ticks, advances add up, wake-ups are counted exactly, the next one named is the first to
-- come, and before it nothing moves.
use mathlib.Core.Path.{◌≡◌, refl, sym, ◌∙◌, ap, ap₂, subst}
use mathlib.Core.Bool.{Bool, true, cond, ◌||◌, true≢false}
use mathlib.Core.Logic.{◌⊎◌}
use Prim.Native.Nat.{ℕ, zero, suc, ◌+◌, ◌<◌, ◌≤◌}
use native.Mathlib.Nat.{add-zero}
use native.Mathlib.Decide.{ℕ_discrete, dec_lt}
use native.Mathlib.Omega.{arith}
use borrow.Author.Tests.{leb-true, le-leb}
use lib.Dec.{eqb}
use Rattle.sequences.specs.Lists.{some_below, count_below}
use Rattle.sequences.specs.Steps.{ticks, wakeups}
use Rattle.sequences.proofs.Tests.{some_below-same}
use Rattle.sequences.proofs.Repeating.{ticks_add, wakeups_add, wakeups-counted}
use Rattle.sequences.proofs.Jumping.{due-first, none_before, none_ever}
use Rattle.model.specs.declared.answers.Answer.TheVariants.{Done}
use Rattle.model.specs.declared.answers.Report.{Report}
use Rattle.model.specs.declared.requests.Request.{Request}
use Rattle.model.specs.declared.tables.Timer.{Timer}
use Rattle.model.specs.State.{State, timer_count, thread_count}
use Rattle.model.specs.Parts.{thread, timer}
use Rattle.model.specs.Ranges.{fits_32}
use Rattle.model.specs.Sound.{sound}
use Rattle.model.specs.Calls.{calls, numbered, answers}
use Rattle.model.specs.Tick.{clock_step, quantum_counts, quantum_ends, timer_ends, limit_ends, before_limits, tick, wakes, wrap}
use Rattle.model.specs.Time.{after_ticks, wakeups_in, Next, next}
use Rattle.model.specs.Kernel.{Outcome, outcome, judge, answer, accept, perform, next_state, call}
use Rattle.model.specs.Promises.{advancing, one_by_one, reported, quantum_reaches_zero, timer_reaches_zero, limit_reaches_zero}
use Rattle.theorems.specs.Skip.{still}
use Rattle.theorems.proofs.Ticking.{tick-sound}
use Rattle.theorems.proofs.Accepting.{ticks-sound}
use Rattle.theorems.proofs.Clock.{next-clock}
use Rattle.theorems.proofs.Turns.{timer_found, limit_turn}
use Rattle.theorems.proofs.Skips.{skip_stays}
use Rattle.theorems.proofs.Jumps.{stilled, kernel, after_stilled, wakes_stilled, after-skip}
use Rattle.theorems.proofs.Demand1.{sound-reply}
use Rattle.theorems.proofs.Demand2.{sound-call}

-- ---- an advance

-- what it answers, reports and leaves
pub advance-done : (s : State) → sound s ≡ true → (n : ℕ) → fits_32 n ≡ true → call s (advancing n) ≡ outcome Done (wakeups_in n s) (after_ticks n s)
unfolding call answer judge answers numbered calls next_state perform accept
advance-done s whole n fits = rw (whole, fits)

-- ticks one by one, and what is reported of them
module _ (s : State) (whole : sound s ≡ true) where
  one-tick : (call s (advancing 1)).after ≡ tick s
  unfolding ticks
  one-tick = ap (λ (o : Outcome). o.after) (advance-done s whole 1 refl)

  one-report : (call s (advancing 1)).report.wakeups ≡ cond {A = ℕ} (wakes s) 1 0
  unfolding wakeups
  one-report = ap (λ (o : Outcome). o.report.wakeups) (advance-done s whole 1 refl) ∙ add-zero (cond (wakes s) 1 0)

pub ticked : (n : ℕ) (s : State) → sound s ≡ true → one_by_one n s ≡ after_ticks n s
unfolding one_by_one ticks
ticked zero s whole = refl
ticked (suc n) s whole = ap (one_by_one n) (one-tick s whole) ∙ ticked n (tick s) (tick-sound s whole)

counted : (n : ℕ) (s : State) → sound s ≡ true → reported n s ≡ wakeups_in n s
unfolding reported wakeups
counted zero s whole = refl
counted (suc n) s whole = ap₂ ◌+◌ (one-report s whole) (ap (reported n) (one-tick s whole) ∙ counted n (tick s) (tick-sound s whole))

-- an advance by n is n advances by 1: the table with its clock and choice, and the wake-ups reported
pub advance_by_ones : (s : State) → sound s ≡ true → (n : ℕ) → fits_32 n ≡ true → call s (advancing n) ≡ outcome Done (reported n s) (one_by_one n s)
advance_by_ones s whole n fits = advance-done s whole n fits ∙ sym (ap₂ (outcome Done) (counted n s whole) (ticked n s whole))

-- the clock moves by one wrapped sum
pub clock_sum : (s : State) → sound s ≡ true → (n : ℕ) → (after_ticks n s).clock ≡ wrap (s.clock + n)
clock_sum s whole n = ap (λ (x : State). x.clock) (after_stilled s whole n)

-- by a and then by b is by their sum
pub advances_add : (s : State) → sound s ≡ true → (a b : ℕ) → fits_32 (a + b) ≡ true
    → call s (advancing (a + b))
    ≡ outcome Done ((call s (advancing a)).report.wakeups + (call (call s (advancing a)).after (advancing b)).report.wakeups)
    (call (call s (advancing a)).after (advancing b)).after
advances_add s whole a b fits = advance-done s whole (a + b) fits ∙ sym (ap₂ (outcome Done) woken table)
  where
    sum : a + b ≤ 4294967295
    sum = leb-true (a + b) 4294967295 fits

    first : call s (advancing a) ≡ outcome Done (wakeups_in a s) (after_ticks a s)
    first = advance-done s whole a (le-leb a 4294967295 (omega (arith, sum)))

    after_first : (call s (advancing a)).after ≡ after_ticks a s
    after_first = ap (λ (o : Outcome). o.after) first

    second : call (after_ticks a s) (advancing b) ≡ outcome Done (wakeups_in b (after_ticks a s)) (after_ticks b (after_ticks a s))
    second = advance-done (after_ticks a s) (ticks-sound a s whole) b (le-leb b 4294967295 (omega (arith, sum)))

    woken : (call s (advancing a)).report.wakeups + (call (call s (advancing a)).after (advancing b)).report.wakeups ≡ wakeups_in (a + b) s
    woken =
        ap₂ ◌+◌ (ap (λ (o : Outcome). o.report.wakeups) first)
        (ap (λ (x : State). (call x (advancing b)).report.wakeups) after_first ∙ ap (λ (o : Outcome). o.report.wakeups) second)
        ∙ sym (wakeups_add tick wakes a b s)

    table : (call (call s (advancing a)).after (advancing b)).after ≡ after_ticks (a + b) s
    table = ap (λ (x : State). (call x (advancing b)).after) after_first ∙ ap (λ (o : Outcome). o.after) second ∙ sym (ticks_add tick a b s)

-- ---- wake-ups

-- those reported are the ticks of the n that are wake-ups
pub wakeups_exactly : (s : State) → sound s ≡ true → (n : ℕ) → fits_32 n ≡ true
    → (call s (advancing n)).report.wakeups ≡ count_below n (λ k. wakes (after_ticks k s))
wakeups_exactly s whole n fits = ap (λ (o : Outcome). o.report.wakeups) (advance-done s whole n fits) ∙ wakeups-counted tick wakes n s

-- a tick is one exactly where step 2, a timer or a limit reaches 0 in it, each at its turn
pub wakes_exactly : (s : State)
    → wakes s ≡ quantum_reaches_zero s || some_below timer_count (λ o. timer_reaches_zero o s) || some_below thread_count (λ i. limit_reaches_zero i s)
unfolding wakes timer_ends limit_ends clock_step quantum_ends quantum_counts
wakes_exactly s =
    ap₂ (λ (timers limits : Bool). quantum_ends s || timers || limits)
    (some_below-same (λ o. eqb (timer o s).left 1) (λ o. timer_reaches_zero o s) timer_count
    (λ o h. ap (λ (t : Timer). eqb t.left 1) (sym (timer_found o s))))
    (some_below-same (λ i. eqb (thread i (before_limits s)).limit 1) (λ i. limit_reaches_zero i s) thread_count
    (λ i h. ap (λ (n : ℕ). eqb n 1) (sym (limit_turn i (before_limits s)))))

-- ---- the next wake-up

pub next-first : (s : State) → sound s ≡ true → Next s (next s)
next-first s whole = by_distance (next s) refl
  where
    near : {d : ℕ} → next s ≡ d → next (still s) ≡ d
    near e = next-clock 0 s ∙ e

    by_distance : (d : ℕ) → next s ≡ d → Next s d
    by_distance zero e = λ j. wakes_stilled s whole j ∙ none_ever kernel j (still s) (stilled s whole) (near e)
    by_distance (suc k) e = (
      wakes_stilled s whole k ∙ due-first kernel k (still s) (stilled s whole) (near e),
      λ j h. wakes_stilled s whole j ∙ none_before kernel k j (still s) (stilled s whole) (near e) h,
    )

pub next-only : (s : State) (k l : ℕ) → Next s k → Next s l → k ≡ l
next-only s zero zero a b = refl
next-only s zero (suc l) a b = absurd (true≢false (sym b.0 ∙ a l))
next-only s (suc k) zero a b = absurd (true≢false (sym a.0 ∙ b k))
next-only s (suc k) (suc l) a b =
    elim (ℕ_discrete k l) [
      | yes e ↦ ap suc e
      | no e ↦
          elim (dec_lt k l) [
            | yes h ↦ absurd (true≢false (sym a.0 ∙ b.1 k h))
            | no h ↦ absurd (true≢false (sym b.0 ∙ a.1 l (omega arith)))
          ]
    ]

-- what a reply names is the next wake-up of the table handed back
pub next-named : (s : State) (q : Request) → sound s ≡ true → Next (call s q).after (call s q).report.next
next-named s q whole =
    subst (Next (call s q).after) (sym (ap (λ (r : Report). r.next) (sound-reply s q whole))) (next-first (call s q).after (sound-call s q whole))

-- until then every list and the choice stay as they are
pub nothing_moves : (s : State) → sound s ≡ true → (m : ℕ) → (next s ≡ 0) ⊎ (m < next s)
    → ((after_ticks m s).ready ≡ s.ready) × ((after_ticks m s).waits ≡ s.waits) × ((after_ticks m s).chosen ≡ s.chosen)
nothing_moves s whole m before =
    let e = after-skip s whole m before in
    let same = skip_stays m (still s) in
    (ap (λ (x : State). x.ready) e ∙ same.0, ap (λ (x : State). x.waits) e ∙ same.1, ap (λ (x : State). x.chosen) e ∙ same.2)
