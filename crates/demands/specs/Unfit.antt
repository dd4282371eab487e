-- What 01 names as unfit, and two errors of its list: each as a property of kernels, and a kernel that has it. A property asks no more than the
-- fault itself, two of them on tables that are right but for it, so that whatever else such a kernel does is shut out with it.
use Rattle.std.specs.Prelude.{◌≡◌, true, false, cond, not, ◌&&◌, ℕ, suc, ◌+◌, ◌≤◌, ◌<◌, eqb, leb, ltb}
use Rattle.model.specs.declared.answers.Answer.{Answer}
use Rattle.model.specs.declared.answers.Answer.TheVariants.{BadNumber}
use Rattle.model.specs.declared.answers.Report.{Report}
use Rattle.model.specs.declared.requests.Request.{Request}
use Rattle.model.specs.State.{State}
use Rattle.model.specs.Parts.{with_clock}
use Rattle.model.specs.Ranges.{fits_32}
use Rattle.model.specs.Words.{is_ready, become_ready}
use Rattle.model.specs.Sound.{sound}
use Rattle.model.specs.Answers.{accepted}
use Rattle.model.specs.Calls.{is_advance}
use Rattle.model.specs.Tick.{wrap}
use Rattle.model.specs.Time.{after_ticks, Next, next}
use Rattle.model.specs.Kernel.{Outcome, outcome, call}
use Rattle.model.specs.Promises.{advancing}
use Rattle.demands.specs.Demands.{Kernel}

-- ours, but for what f makes of the report and of the table handed back
abbrev but : (State → Request → Outcome → Outcome) → Kernel
but f s q = f s q (call s q)

abbrev with_answer : Answer → Report → Report
with_answer a r = record { answer = a; chosen = r.chosen; clock = r.clock; wakeups = r.wakeups; next = r.next }

abbrev with_wakeups : ℕ → Report → Report
with_wakeups n r = record { answer = r.answer; chosen = r.chosen; clock = r.clock; wakeups = n; next = r.next }

abbrev with_next : ℕ → Report → Report
with_next n r = record { answer = r.answer; chosen = r.chosen; clock = r.clock; wakeups = r.wakeups; next = n }

-- ---- by demand 2

-- it refuses everything
abbrev pub RefusesAll : Kernel → Type 0
RefusesAll K = (s : State) (q : Request) → accepted (K s q).report.answer ≡ false

abbrev pub refusing : Kernel
refusing s q = outcome BadNumber 0 s

-- it has one answer for all
abbrev pub AnswersSo : Answer → Kernel → Type 0
AnswersSo a K = (s : State) (q : Request) → (K s q).report.answer ≡ a

abbrev pub answering : Answer → Kernel
answering a = but (λ s q o. record { report = with_answer a o.report; after = o.after })

-- it changes nothing
abbrev pub ChangesNothing : Kernel → Type 0
ChangesNothing K = (s : State) (q : Request) → (K s q).after ≡ s

abbrev pub idle : Kernel
idle = but (λ s q o. record { report = o.report; after = s })

-- whom another took over from, though still ready, goes to the tail
abbrev pub preempted_last : State → State → State
preempted_last before s =
    cond (not (eqb before.chosen s.chosen) && is_ready before.chosen s)
    (become_ready before.chosen s)
    s

abbrev pub PreemptsToTail : Kernel → Type 0
PreemptsToTail K = (s : State) (q : Request) → sound s ≡ true → (K s q).after ≡ preempted_last s (call s q).after

abbrev pub preempting : Kernel
preempting = but (λ s q o. outcome o.report.answer o.report.wakeups (preempted_last s o.after))

-- ---- by demand 3

-- it does what the first due tick asks for, and then nothing but the clock goes on
abbrev pub HandlesFirstOnly : Kernel → Type 0
HandlesFirstOnly K =
    (s : State) → sound s ≡ true → (n k : ℕ) → fits_32 n ≡ true → Next s (suc k) → suc k ≤ n
    → (K s (advancing n)).after ≡ with_clock (wrap (s.clock + n)) (after_ticks (suc k) s)

abbrev once : ℕ → State → State
once n s = cond (ltb 0 (next s) && leb (next s) n) (with_clock (wrap (s.clock + n)) (after_ticks (next s) s)) (after_ticks n s)

abbrev pub handling_once : Kernel
handling_once =
    but
    (λ s q o. cond (accepted o.report.answer && is_advance q)
    (outcome o.report.answer o.report.wakeups (once q.a s))
    o)

-- its wake-ups are made up from the number of ticks
abbrev pub CountsSo : (ℕ → ℕ) → Kernel → Type 0
CountsSo f K = (s : State) → sound s ≡ true → (n : ℕ) → fits_32 n ≡ true → (K s (advancing n)).report.wakeups ≡ f n

abbrev pub counting : (ℕ → ℕ) → Kernel
counting f = but (λ s q o. record { report = with_wakeups (f q.a) o.report; after = o.after })

-- when a shorter timer starts, the next wake-up stays as it is named before that, though the table is right
abbrev pub KeepsNext : Kernel → Type 0
KeepsNext K =
    (s : State) (q : Request) → sound s ≡ true → q.call ≡ 19 → q.a < (K s (advancing 0)).report.next
    → ((K s q).after ≡ (call s q).after) × ((K s q).report.next ≡ (K s (advancing 0)).report.next)

abbrev pub saving : Kernel
saving =
    but
    (λ s q o. cond (eqb q.call 19 && ltb q.a (next s))
    (record { report = with_next (next s) o.report; after = o.after })
    o)
