-- 01, Answers: what number each case of `Answer` stands for, what is reported beside it, and which of several is given. When each is
-- due is said call by call in Calls.antt.
use Rattle.std.specs.Prelude.{Bool, cond, ◌||◌, List, [], ◌∷◌, ℕ, eqb}
use Rattle.model.specs.declared.answers.Answer.{Answer}
use Rattle.model.specs.declared.answers.Answer.TheVariants.{Done, Unsound, NoCall, NoObject, BadNumber, Exists, NobodyRuns, SchedulingOff, WrongState, Full, Waits}
use Rattle.model.specs.declared.answers.Report.{Report}
use Rattle.model.specs.State.{State, nobody}

abbrev pub number : Answer → ℕ
number Done = 0
number Unsound = 1
number NoCall = 2
number NoObject = 3
number BadNumber = 4
number Exists = 5
number NobodyRuns = 6
number SchedulingOff = 7
number WrongState = 8
number Full = 9
number Waits = 10

-- 0 and 10 are accepted, 1 to 9 are refusals
abbrev pub accepted : Answer → Bool
accepted a = eqb (number a) 0 || eqb (number a) 10

-- 01, Answers, under the table: with 1 nobody, clock 0 and next wake-up 0 are reported, else what the table handed back has.
-- `next` is that table's next wake-up.
abbrev pub report : Answer → State → ℕ → ℕ → Report
report a s wakeups next =
    cond (eqb (number a) 1)
    (record { answer = a; chosen = nobody; clock = 0; wakeups = 0; next = 0 })
    (record { answer = a; chosen = s.chosen; clock = s.clock; wakeups = wakeups; next = next })

-- ---- an answer, and when it is due

infix 20 ◌when◌
pub record Given : Type 0 where
  pub answer : Answer
  pub due : Bool

abbrev pub ◌when◌ : Answer → Bool → Given
a when b = record { answer = a; due = b }

-- 01, Answers, on several faults at once: the first that is due, which is the lowest where the list goes up; else done
abbrev pub first-due : List Given → Answer
first-due [] = Done
first-due (g ∷ gs) = cond g.due g.answer (first-due gs)
