-- The kernel's ticks can be jumped over where nothing is due, while the clock rests at 0: what the theory of jumps asks, and what it gives
-- for ticks with their clock.
use mathlib.Core.Path.{◌≡◌, refl, ◌∙◌, ap, sym}
use mathlib.Core.Bool.{true}
use Prim.Native.Nat.{ℕ, ◌+◌, ◌<◌, ◌^◌}
use native.Mathlib.Omega.{arith}
use borrow.Author.Tests.{leb-true}
use Rattle.sequences.specs.Steps.{ticks}
use Rattle.sequences.specs.Jumps.{Jump, Gone, Free}
use Rattle.sequences.proofs.Tests.{both, right}
use Rattle.sequences.proofs.Jumping.{jump}
use Rattle.model.specs.State.{State, nobody}
use Rattle.model.specs.Parts.{with_clock}
use Rattle.model.specs.Ranges.{fits_32}
use Rattle.model.specs.Sound.{sound_but_choice, choice_fits, sound}
use Rattle.model.specs.Tick.{wrap, tick, wakes}
use Rattle.model.specs.Time.{after_ticks, wakeups_in, next}
use Rattle.theorems.specs.Skip.{skip, still, still_tick}
use Rattle.theorems.proofs.Soundness.{lawful-sound}
use Rattle.theorems.proofs.Records.{clock-lawful}
use Rattle.theorems.proofs.Choosing.{sound_steady}
use Rattle.theorems.proofs.Ticking.{tick-sound}
use Rattle.theorems.proofs.Clock.{wakes-clock, next-clock, ticks-clock, wakeups-clock}
use Rattle.theorems.proofs.Skips.{next-skip, skip_none, skip_more}
use Rattle.theorems.proofs.Quiet.{quiet-still}
use Rattle.theorems.proofs.Counting.{wakes-next}

pub clock-sound : (n : ℕ) (s : State) → fits_32 n ≡ true → sound s ≡ true → sound (with_clock n s) ≡ true
unfolding sound choice_fits
clock-sound n s fits whole =
    both (lawful-sound (with_clock n s) (clock-lawful nobody s (sound_steady s whole).lawful n fits)) (right (sound_but_choice s) (choice_fits s) whole)

-- sound, its clock at 0
abbrev pub Still : State → Type 0
Still s = (sound s ≡ true) × (s.clock ≡ 0)

pub stilled : (s : State) → sound s ≡ true → Still (still s)
stilled s whole = (clock-sound 0 s refl whole, refl)

pub kernel : Jump Still still_tick wakes next skip
unfolding still_tick
kernel =
    record {
      keeps = λ s o. stilled (tick s) (tick-sound s o.0);
      due_next = λ s o. wakes-next s o.0;
      quiet = λ s o e. quiet-still s o.0 o.1 e;
      closer = λ s m o h. next-skip s m h;
      skip_none = λ s o. skip_none s;
      skip_more = λ s a b o. skip_more s a b;
    }

module _ (s : State) (whole : sound s ≡ true) where
  in_range : s.clock < 2 ^ 32
  in_range = let most = leb-true s.clock 4294967295 (sound_steady s whole).lawful.clock in omega arith

  -- ticks with their clock, by ticks without
  pub after_stilled : (n : ℕ) → after_ticks n s ≡ with_clock (wrap (s.clock + n)) (ticks still_tick n (still s))
  unfolding still_tick
  after_stilled n = ticks-clock n s in_range

  pub wakes_stilled : (n : ℕ) → wakes (after_ticks n s) ≡ wakes (ticks still_tick n (still s))
  wakes_stilled n = ap wakes (after_stilled n) ∙ wakes-clock (wrap (s.clock + n)) (ticks still_tick n (still s))

  -- ticks before the next wake-up are a skip
  pub after-skip : (m : ℕ) → Free m (next s) → after_ticks m s ≡ with_clock (wrap (s.clock + m)) (skip m (still s))
  after-skip m h = after_stilled m ∙ ap (with_clock (wrap (s.clock + m))) (jump kernel m (still s) (stilled s whole) (rw (next-clock 0 s) h))

  -- what a loop that jumps from wake-up to wake-up has done, with the clock moved once
  pub after_gone : (n : ℕ) (after : State) (woken : ℕ) → Gone still_tick wakes (still s) n after woken
      → (with_clock (wrap (s.clock + n)) after ≡ after_ticks n s) × (woken ≡ wakeups_in n s)
  unfolding still_tick
  after_gone n after woken gone =
      (ap (with_clock (wrap (s.clock + n))) gone.table ∙ sym (after_stilled n), gone.count ∙ sym (wakeups-clock n s))
