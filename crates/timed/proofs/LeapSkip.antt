-- A leap after a skip is a leap over both, since a leap is a skip and a tick. That is known with the clock at 0 only; but a leap goes by no clock,
-- and leaves it as it was.
use Rattle.std.proofs.Common.{◌≡◌, ℕ, ◌+◌, ◌-◌, ◌<◌, ◌&&◌, eqb, length, sym, refl, ap, ◌∙◌, arith}
use lib.ListN.{length-map}
use Rattle.sequences.specs.Steps.{in_order}
use Rattle.model.specs.State.{State, thread_count, timer_count}
use Rattle.model.specs.Parts.{thread, timer, with_clock, alter_timer}
use Rattle.model.specs.Words.{leave, enter_ready, become_ready, wake, settle, choose}
use Rattle.model.specs.Tick.{quantum_counts, expired}
use Rattle.theorems.specs.Skip.{limit_less, time_less, spent, skip, still, still_tick}
use Rattle.theorems.specs.Leap.{spend, quantum_leap, timer_leap, limit_leap, leap}
use Rattle.theorems.proofs.Retimed.{Passes, cond_passes, steps_pass, but-threads, act_retimed}
use Rattle.theorems.proofs.Skips.{length-spent, skip_more}
use Rattle.theorems.proofs.Leaping.{leap-still}
use Rattle.theorems.proofs.Clock.{choose-clock}
use Rattle.timed.specs.Ahead.{fall}

-- ---- the clock

module _ (gap ticks c : ℕ) where
  quantum_leap-clock : Passes (with_clock c) (quantum_leap gap)
  unfolding quantum_leap quantum_counts spend become_ready enter_ready leave
  quantum_leap-clock s = cond_passes (with_clock c) (quantum_counts s && eqb (thread s.chosen s).left gap) refl refl refl

  timer_leap-clock : (o : ℕ) → Passes (with_clock c) (timer_leap ticks o)
  unfolding timer_leap
  timer_leap-clock o s =
      let t = timer o s in
      cond_passes (with_clock c) (eqb t.left ticks) refl
      (act_retimed (but-threads (λ n. c) (λ ts. ts)) t.kind t.object t.mask (alter_timer o expired s)) refl

  limit_leap-clock : (i : ℕ) → Passes (with_clock c) (limit_leap ticks i)
  unfolding limit_leap wake become_ready enter_ready leave
  limit_leap-clock i s = cond_passes (with_clock c) (eqb (thread i s).limit ticks) refl refl refl

  pub fall-clock : Passes (with_clock c) (fall gap ticks)
  unfolding fall settle
  fall-clock s =
      let q = quantum_leap gap s in
      let timers = in_order timer_count (timer_leap ticks) in
      let limits = in_order thread_count (limit_leap ticks) in
      ap (λ (x : State). choose (limits (timers x))) (quantum_leap-clock s)
      ∙ ap (λ (x : State). choose (limits x)) (steps_pass (with_clock c) (timer_leap ticks) timer_count timer_leap-clock q)
      ∙ ap choose (steps_pass (with_clock c) (limit_leap ticks) thread_count limit_leap-clock (timers q))
      ∙ choose-clock c (limits (timers q))

leap-clock : (gap c : ℕ) → Passes (with_clock c) (leap gap)
unfolding leap fall
leap-clock gap c = fall-clock gap gap c

-- ---- a leap after a skip

pub leap-skip : (d gap : ℕ) (s : State) → 0 < gap → length s.timers ≡ timer_count → length s.threads ≡ thread_count
    → leap gap (skip d s) ≡ leap (d + gap) s
unfolding skip quantum_counts
leap-skip d gap s some timers threads =
    let c = s.clock in
    let last : d + (gap - 1) ≡ d + gap - 1 = omega arith in
    leap-clock gap c (skip d s)
    ∙ ap (with_clock c)
    (leap-still (skip d s) gap some (length-map s.timers (time_less d) ∙ timers)
    (length-map (spent (quantum_counts s) d s.chosen s.threads) (limit_less d)
    ∙ length-spent (quantum_counts s) d s.chosen s.threads
    ∙ threads)
    ∙ ap still_tick (skip_more (still s) d (gap - 1) ∙ ap (λ (m : ℕ). skip m (still s)) last)
    ∙ sym (leap-still s (d + gap) (omega arith) timers threads))
    ∙ sym (leap-clock (d + gap) c s)
