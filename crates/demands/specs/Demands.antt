-- The three demands, as predicates over any kernel: over whatever answers a request on a table. Demand 3 is read over 01's single ticks, one
-- after another; nothing here knows a way to pass many of them at once.
use Rattle.std.specs.Prelude.{◌≡◌, true, not, ◌&&◌, ◌⊎◌, ℕ, suc, ◌+◌, ◌<◌, ◌≤◌, eqb}
use Rattle.sequences.specs.Lists.{count_all, every_below, count_below}
use Rattle.model.specs.declared.requests.Request.{Request}
use Rattle.model.specs.State.{State, scheduling_on}
use Rattle.model.specs.Parts.{thread}
use Rattle.model.specs.Ranges.{◌implies◌, fits_32}
use Rattle.model.specs.Sound.{sound}
use Rattle.model.specs.Answers.{number, accepted, report}
use Rattle.model.specs.Calls.{is_advance, numbered}
use Rattle.model.specs.Tick.{wakes}
use Rattle.model.specs.Time.{after_ticks, Next}
use Rattle.model.specs.Kernel.{Outcome, perform}
use Rattle.model.specs.Promises.{applies, heads_highest, advancing}

-- what is reported, and the table handed back
abbrev pub Kernel : Type 0
Kernel = State → Request → Outcome

-- ---- 1: every call ends with an answer

pub record Demand1 (K : Kernel) : Type 0 where
  -- each number above 0 exactly if its row applies and no lower one does; 0 exactly if none does
  pub given : (s : State) (q : Request) (n : ℕ)
      → eqb (number (K s q).report.answer) (suc n) ≡ applies (suc n) s q && every_below (suc n) (λ k. not (applies k s q))
  pub done : (s : State) (q : Request) → eqb (number (K s q).report.answer) 0 ≡ every_below 11 (λ k. not (applies k s q))
  -- a refusal changes nothing
  pub unchanged : (s : State) (q : Request) → (accepted (K s q).report.answer ≡ true) ⊎ ((K s q).after ≡ s)
  -- with 1 nothing is told, else what the table handed back has; no wake-ups but those of an advance that is done
  pub told : (s : State) (q : Request)
      → (K s q).report ≡ report (K s q).report.answer (K s q).after (K s q).report.wakeups (K s q).report.next
  pub quiet : (s : State) (q : Request) → (accepted (K s q).report.answer && is_advance q ≡ true) ⊎ ((K s q).report.wakeups ≡ 0)

-- ---- 2: every accepted call has exactly its effect

pub record Demand2 (K : Kernel) : Type 0 where
  -- the effect that 01 defines, and nothing is refused that it accepts
  pub effect : (s : State) (q : Request) → (K s q).after ≡ perform (accepted (K s q).report.answer) (numbered q.call) q s
  pub accepts : (s : State) (q : Request) → accepted (K s q).report.answer ≡ every_below 10 (λ k. not (applies k s q))
  -- with scheduling on the chosen thread heads the highest ready list that isn't empty
  pub heads : (s : State) (q : Request) → sound s ≡ true → scheduling_on (K s q).after implies heads_highest (K s q).after ≡ true
  -- every created thread stands on one list, once, and any other id on none
  pub stands : (s : State) (q : Request) → sound s ≡ true → (i : ℕ)
      → (count_all i (K s q).after.ready + count_all i (K s q).after.waits ≡ (thread i (K s q).after).created)
      × ((thread i (K s q).after).created ≤ 1)
  pub keeps_sound : (s : State) (q : Request) → sound s ≡ true → sound (K s q).after ≡ true

-- ---- 3: many ticks at once

pub record Demand3 (K : Kernel) : Type 0 where
  -- an advance by n is n single ticks: the table with its clock and its choice, and the wake-ups reported
  pub ticked : (s : State) → sound s ≡ true → (n : ℕ) → fits_32 n ≡ true → (K s (advancing n)).after ≡ after_ticks n s
  pub counted : (s : State) → sound s ≡ true → (n : ℕ) → fits_32 n ≡ true
      → (K s (advancing n)).report.wakeups ≡ count_below n (λ k. wakes (after_ticks k s))
  -- two advances add up
  pub adds : (s : State) → sound s ≡ true → (a b : ℕ) → fits_32 (a + b) ≡ true
      → ((K s (advancing (a + b))).after ≡ (K (K s (advancing a)).after (advancing b)).after)
      × ((K s (advancing (a + b))).report.wakeups
      ≡ (K s (advancing a)).report.wakeups + (K (K s (advancing a)).after (advancing b)).report.wakeups)
  -- the next wake-up named is the first tick still to come in which something falls due, or 0
  pub named : (s : State) (q : Request) → sound s ≡ true → Next (K s q).after (K s q).report.next
  -- and until then every list and the choice stay as they are
  pub still : (s : State) (q : Request) → sound s ≡ true → (m : ℕ) → fits_32 m ≡ true
      → ((K s q).report.next ≡ 0) ⊎ (m < (K s q).report.next)
      → ((K (K s q).after (advancing m)).after.ready ≡ (K s q).after.ready)
      × ((K (K s q).after (advancing m)).after.waits ≡ (K s q).after.waits)
      × ((K (K s q).after (advancing m)).after.chosen ≡ (K s q).after.chosen)

-- all three
pub record Demands (K : Kernel) : Type 0 where
  pub first : Demand1 K
  pub second : Demand2 K
  pub third : Demand3 K
