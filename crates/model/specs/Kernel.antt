-- A whole call, for any table and any request: 01, Answers, and 01, Calls, from the test of soundness to the reply. Nothing is decided
-- here that isn't said in Sound, Calls, Effects, Words or Time; this file puts them in order.
use Rattle.std.specs.Prelude.{Bool, true, false, cond, ◌&&◌, ℕ}
use Rattle.std.proofs.Math.Option.{Option, none, some}
use Rattle.model.specs.declared.answers.Answer.{Answer}
use Rattle.model.specs.declared.answers.Answer.TheVariants.{Unsound, NoCall}
use Rattle.model.specs.declared.answers.Report.{Report}
use Rattle.model.specs.declared.requests.Request.{Request}
use Rattle.model.specs.State.{State}
use Rattle.model.specs.Words.{settle, choose}
use Rattle.model.specs.Sound.{sound}
use Rattle.model.specs.Answers.{accepted, report, first-due}
use Rattle.model.specs.Calls.{Call, create_thread, start, stop, exit, yield, sleep, set_priority, set_quantum, create_semaphore, pend, post, create_mutex, claim, release, create_flags, wait, set, clear, start_timer, stop_timer, scheduling, advance, is_advance, numbered, answers}
use Rattle.model.specs.Effects.{create_thread_effect, start_effect, stop_effect, exit_effect, yield_effect, sleep_effect, set_priority_effect, set_quantum_effect}
use Rattle.model.specs.Effects.{create_semaphore_effect, pend_effect, post_effect, create_mutex_effect, claim_effect, release_effect}
use Rattle.model.specs.Effects.{create_flags_effect, wait_effect, set_effect, clear_effect, start_timer_effect, stop_timer_effect, scheduling_effect}
use Rattle.model.specs.Time.{after_ticks, wakeups_in, next}

-- 01, Calls, on choosing: after each call but 22
abbrev pub then_choose : State → State
then_choose s = choose (settle s)

-- the table after an accepted call
unfoldable pub accept : Call → Request → State → State
accept create_thread q s = then_choose (create_thread_effect q s)
accept start q s = then_choose (start_effect q s)
accept stop q s = then_choose (stop_effect q s)
accept exit q s = then_choose (exit_effect q s)
accept yield q s = then_choose (yield_effect q s)
accept sleep q s = then_choose (sleep_effect q s)
accept set_priority q s = then_choose (set_priority_effect q s)
accept set_quantum q s = then_choose (set_quantum_effect q s)
accept create_semaphore q s = then_choose (create_semaphore_effect q s)
accept pend q s = then_choose (pend_effect q s)
accept post q s = then_choose (post_effect q s)
accept create_mutex q s = then_choose (create_mutex_effect q s)
accept claim q s = then_choose (claim_effect q s)
accept release q s = then_choose (release_effect q s)
accept create_flags q s = then_choose (create_flags_effect q s)
accept wait q s = then_choose (wait_effect q s)
accept set q s = then_choose (set_effect q s)
accept clear q s = then_choose (clear_effect q s)
accept start_timer q s = then_choose (start_timer_effect q s)
accept stop_timer q s = then_choose (stop_timer_effect q s)
accept scheduling q s = then_choose (scheduling_effect q s)
accept advance q s = after_ticks q.a s

-- ---- the answer

unfoldable pub judge : Option Call → Request → State → Answer
judge none q s = NoCall
judge (some c) q s = first-due (answers c q s)

-- 1 before all others, then 2, then what the call itself can answer
unfoldable pub answer : State → Request → Answer
answer s q = cond (sound s) (judge (numbered q.call) q s) Unsound

-- ---- the table handed back and the wake-ups

unfoldable pub perform : Bool → Option Call → Request → State → State
perform false c q s = s
perform true none q s = s
perform true (some c) q s = accept c q s

-- a refusal leaves the table as it was
unfoldable pub next_state : Answer → Request → State → State
next_state a q s = perform (accepted a) (numbered q.call) q s

-- how many ticks pass in a call: those of an advance that is done, else none
abbrev pub span : Answer → Request → ℕ
span a q = cond (accepted a && is_advance q) q.a 0

-- ---- the whole reply

pub record Outcome : Type 0 where
  pub report : Report
  pub after : State

abbrev pub outcome : Answer → ℕ → State → Outcome
outcome a wakeups s = record { report = report a s wakeups (next s); after = s }

unfoldable pub call : State → Request → Outcome
call s q = let a : Answer = answer s q in outcome a (wakeups_in (span a q) s) (next_state a q s)
