-- What is replied to a call: its answer is the lowest row that applies, and with any answer but 1 the report tells what the table handed
-- back holds.
use mathlib.Core.Path.{◌≡◌, refl, sym, ◌∙◌, ap}
use mathlib.Core.Bool.{Bool, true, false, cond, not, true≢false}
use mathlib.Core.Option.{Option, none, some}
use Prim.Native.Nat.{ℕ, ◌≤◌}
use native.Mathlib.Omega.{arith}
use borrow.Author.Tests.{ne_eqb}
use lib.Dec.{eqb}
use Rattle.sequences.specs.Steps.{wakeups}
use Rattle.model.specs.declared.answers.Answer.{Answer}
use Rattle.model.specs.declared.answers.Answer.TheVariants.{Done, Unsound, NoCall, NoObject, BadNumber, Exists, NobodyRuns, SchedulingOff, WrongState, Full, Waits}
use Rattle.model.specs.declared.answers.Report.{Report}
use Rattle.model.specs.declared.requests.Request.{Request}
use Rattle.model.specs.State.{State, nobody}
use Rattle.model.specs.Sound.{sound}
use Rattle.model.specs.Answers.{number, report, first-due}
use Rattle.model.specs.Calls.{Call, create_thread, start, stop, exit, yield, sleep, set_priority, set_quantum, create_semaphore, pend, post, create_mutex, claim, release, create_flags, wait, set, clear, start_timer, stop_timer, scheduling, advance, numbered, answers}
use Rattle.model.specs.Time.{next, wakeups_in}
use Rattle.model.specs.Kernel.{judge, answer, next_state, span, call}
use Rattle.model.specs.Promises.{rows_of, rows}
use Rattle.theorems.proofs.Lowest.{rising, below_rising, Lowest, first_lowest}

-- ---- the rows go up

call_rises : (c : Call) (q : Request) (s : State) → rising 1 (answers c q s) ≡ true
unfolding answers
call_rises create_thread q s = refl
call_rises start q s = refl
call_rises stop q s = refl
call_rises exit q s = refl
call_rises yield q s = refl
call_rises sleep q s = refl
call_rises set_priority q s = refl
call_rises set_quantum q s = refl
call_rises create_semaphore q s = refl
call_rises pend q s = refl
call_rises post q s = refl
call_rises create_mutex q s = refl
call_rises claim q s = refl
call_rises release q s = refl
call_rises create_flags q s = refl
call_rises wait q s = refl
call_rises set q s = refl
call_rises clear q s = refl
call_rises start_timer q s = refl
call_rises stop_timer q s = refl
call_rises scheduling q s = refl
call_rises advance q s = refl

rows_rise : (c : Option Call) (q : Request) (s : State) → rising 1 (rows_of c q s) ≡ true
unfolding rows_of
rows_rise none q s = refl
rows_rise (some c) q s = call_rises c q s

-- ---- the answer is the first that is due

pub number-most : (a : Answer) → number a ≤ 10
number-most Done = omega arith
number-most Unsound = omega arith
number-most NoCall = omega arith
number-most NoObject = omega arith
number-most BadNumber = omega arith
number-most Exists = omega arith
number-most NobodyRuns = omega arith
number-most SchedulingOff = omega arith
number-most WrongState = omega arith
number-most Full = omega arith
number-most Waits = omega arith

judged : (c : Option Call) (q : Request) (s : State) → judge c q s ≡ first-due (rows_of c q s)
unfolding judge rows_of
judged none q s = refl
judged (some c) q s = refl

-- what a call of a sound table is answered isn't 1
pub judge_other : (c : Option Call) (q : Request) (s : State) → eqb (number (judge c q s)) 1 ≡ false
unfolding judge
judge_other none q s = refl
judge_other (some c) q s = ne_eqb n 1 (λ e. true≢false (sym (lowest.here (omega arith)) ∙ below_rising (answers c q s) 1 n (call_rises c q s) (omega arith)))
  where
    n : ℕ
    n = number (first-due (answers c q s))

    lowest : Lowest (answers c q s) n
    lowest = first_lowest (answers c q s) 1 (call_rises c q s)

report-answer : (a : Answer) (s : State) (wakeups n : ℕ) → (report a s wakeups n).answer ≡ a
report-answer a s wakeups n = by_test (eqb (number a) 1)
  where
    by_test : (b : Bool)
        → (cond {A = Report} b (record { answer = a; chosen = nobody; clock = 0; wakeups = 0; next = 0 })
        (record { answer = a; chosen = s.chosen; clock = s.clock; wakeups = wakeups; next = n })).answer ≡ a
    by_test true = refl
    by_test false = refl

-- with any answer but 1
told : (a : Answer) (s : State) (wakeups n : ℕ) → eqb (number a) 1 ≡ false
    → report a s wakeups n
    ≡ record { answer = (report a s wakeups n).answer; chosen = s.chosen; clock = s.clock; wakeups = (report a s wakeups n).wakeups; next = n }
told a s wakeups n other = rw other

module _ (s : State) (q : Request) where
  first : answer s q ≡ first-due (rows s q)
  unfolding answer rows
  first = by_sound (sound s)
    where
      by_sound : (b : Bool) → cond b (judge (numbered q.call) q s) Unsound ≡ cond (not b) Unsound (first-due (rows_of (numbered q.call) q s))
      by_sound true = judged (numbered q.call) q s
      by_sound false = refl

  pub reply-answer : (call s q).report.answer ≡ answer s q
  unfolding call
  reply-answer = report-answer (answer s q) (next_state (answer s q) q s) (wakeups_in (span (answer s q) q) s) (next (next_state (answer s q) q s))

  pub reply_lowest : Lowest (rows s q) (number (call s q).report.answer)
  unfolding rows
  reply_lowest = rw (reply-answer, first) (first_lowest (rows s q) 0 (rows_rise (numbered q.call) q s))

  pub reply-told : eqb (number (call s q).report.answer) 1 ≡ false
      → (call s q).report
      ≡ record {
        answer = (call s q).report.answer;
        chosen = (call s q).after.chosen;
        clock = (call s q).after.clock;
        wakeups = (call s q).report.wakeups;
        next = next (call s q).after;
      }
  unfolding call
  reply-told other =
      told (answer s q) (next_state (answer s q) q s) (wakeups_in (span (answer s q) q) s) (next (next_state (answer s q) q s))
      (ap (λ (a : Answer). eqb (number a) 1) (sym reply-answer) ∙ other)
