-- Demand 1, in the model: every call ends with an answer, each number is given exactly when its row of the table of answers applies and no
-- lower one does, and a refusal changes nothing.
use mathlib.Core.Path.{◌≡◌, refl, ◌∙◌, ap}
use mathlib.Core.Bool.{Bool, true, false, cond, not, ◌&&◌}
use mathlib.Core.Logic.{◌⊎◌, inl, inr}
use Prim.Native.Nat.{ℕ, ◌≤◌, suc}
use native.Mathlib.Omega.{arith}
use lib.Dec.{eqb}
use Rattle.sequences.specs.Lists.{every_below}
use Rattle.sequences.specs.Steps.{wakeups}
use Rattle.model.specs.declared.answers.Answer.TheVariants.{Unsound}
use Rattle.model.specs.declared.requests.Request.{Request}
use Rattle.model.specs.State.{State, nobody}
use Rattle.model.specs.Sound.{sound}
use Rattle.model.specs.Answers.{number, accepted}
use Rattle.model.specs.Calls.{numbered, nobody_runs, scheduling_off}
use Rattle.model.specs.Time.{next}
use Rattle.model.specs.Kernel.{outcome, judge, answer, perform, next_state, call}
use Rattle.model.specs.Promises.{applies, rows, is_call, creates_existing, needs_running, needs_scheduling, is_full, waits_or_sleeps}
use Rattle.theorems.proofs.Lowest.{lowest_exactly, lowest_done}
use Rattle.theorems.proofs.Replies.{number-most, judge_other, reply-answer, reply_lowest, reply-told}
use Rattle.theorems.proofs.ByNumber.{number-rows, existing_rows, running-rows, scheduling-rows, full_rows, waiting_rows}

-- every call ends with an answer
pub answered : (s : State) (q : Request) → number (call s q).report.answer ≤ 10
answered s q = number-most (call s q).report.answer

-- a number is given exactly where its row applies and no lower one does
pub given_exactly : (s : State) (q : Request) (n : ℕ)
    → eqb (number (call s q).report.answer) (suc n) ≡ applies (suc n) s q && every_below (suc n) (λ k. not (applies k s q))
unfolding applies
given_exactly s q n = lowest_exactly (reply_lowest s q) (suc n) (omega arith)

-- and 0 exactly where none applies
pub done_exactly : (s : State) (q : Request) → eqb (number (call s q).report.answer) 0 ≡ every_below 11 (λ k. not (applies k s q))
unfolding applies
done_exactly s q = lowest_done (reply_lowest s q) 11 (omega (arith, answered s q))

-- the rows that 01 tells of several calls at once, each over all calls: 2, 5, 6, 7, 9 and 10
pub number-row : (s : State) (q : Request) → applies 2 s q ≡ not (is_call q)
unfolding applies rows
number-row s q = number-rows q s

pub existing_row : (s : State) (q : Request) → applies 5 s q ≡ creates_existing q s
unfolding applies rows
existing_row s q = existing_rows q s

pub running-row : (s : State) (q : Request) → applies 6 s q ≡ needs_running q && nobody_runs s
unfolding applies rows
running-row s q = running-rows q s

pub scheduling-row : (s : State) (q : Request) → applies 7 s q ≡ scheduling_off s && needs_scheduling q s
unfolding applies rows
scheduling-row s q = scheduling-rows q s

pub full_row : (s : State) (q : Request) → applies 9 s q ≡ is_full q s
unfolding applies rows
full_row s q = full_rows q s

pub waiting_row : (s : State) (q : Request) → applies 10 s q ≡ waits_or_sleeps q s
unfolding applies rows
waiting_row s q = waiting_rows q s

-- 1 exactly where the table isn't sound
pub unsound_exactly : (s : State) (q : Request) → eqb (number (call s q).report.answer) 1 ≡ not (sound s)
unfolding answer
unsound_exactly s q = rw (reply-answer s q) (by_sound (sound s))
  where
    by_sound : (b : Bool) → eqb (number (cond b (judge (numbered q.call) q s) Unsound)) 1 ≡ not b
    by_sound true = judge_other (numbered q.call) q s
    by_sound false = refl

-- and then nothing is told of it
pub unsound_reply : (s : State) (q : Request)
    → (sound s ≡ true) ⊎ (call s q ≡ record { report = record { answer = Unsound; chosen = nobody; clock = 0; wakeups = 0; next = 0 }; after = s })
unfolding call answer next_state perform wakeups
unsound_reply s q = by_sound (sound s) refl
  where
    by_sound : (b : Bool) → sound s ≡ b
        → (sound s ≡ true) ⊎ (call s q ≡ record { report = record { answer = Unsound; chosen = nobody; clock = 0; wakeups = 0; next = 0 }; after = s })
    by_sound true e = inl e
    by_sound false e = inr (rw e)

-- of a sound one the report tells what the table handed back holds
pub sound-reply : (s : State) (q : Request) → sound s ≡ true
    → (call s q).report
    ≡ record {
      answer = (call s q).report.answer;
      chosen = (call s q).after.chosen;
      clock = (call s q).after.clock;
      wakeups = (call s q).report.wakeups;
      next = next (call s q).after;
    }
sound-reply s q whole = reply-told s q (unsound_exactly s q ∙ ap not whole)

-- a refusal hands back the table as it was and reports no wake-up
pub refused_unchanged : (s : State) (q : Request) → (accepted (call s q).report.answer ≡ true) ⊎ (call s q ≡ outcome (call s q).report.answer 0 s)
unfolding call next_state perform wakeups
refused_unchanged s q = by_test (accepted (answer s q)) refl
  where
    by_test : (b : Bool) → accepted (answer s q) ≡ b → (accepted (call s q).report.answer ≡ true) ⊎ (call s q ≡ outcome (call s q).report.answer 0 s)
    by_test true e = inl (rw (reply-answer s q) e)
    by_test false e = inr (rw (reply-answer s q, e))
