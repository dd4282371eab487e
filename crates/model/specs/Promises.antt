-- Words in which the three demands are told and which no rule of 01 needs: rows of the table of answers, who heads the ready lists, one
-- call after another. The theorems speak of these and of the model's other words, and of nothing else.
use Rattle.std.specs.Prelude.{Bool, true, false, cond, not, ◌&&◌, ◌||◌, List, [], ◌∷◌, ℕ, zero, suc, ◌+◌, eqb, leb, ltb, length}
use Rattle.std.proofs.Math.Option.{Option, none, some}
use Rattle.sequences.specs.Lists.{among, head_or, every_below, some_below}
use Rattle.sequences.specs.Steps.{in_order}
use Rattle.model.specs.declared.answers.Answer.TheVariants.{Unsound, NoCall}
use Rattle.model.specs.declared.requests.Request.{Request}
use Rattle.model.specs.State.{State, nobody, priority_count, semaphore_list, fresh}
use Rattle.model.specs.Parts.{thread, semaphore, mutex, flag_object, timer, ready_list, list}
use Rattle.model.specs.Ranges.{◌implies◌, has_thread, has_semaphore, has_mutex, has_flags}
use Rattle.model.specs.Words.{holds}
use Rattle.model.specs.Sound.{sound}
use Rattle.model.specs.Answers.{Given, ◌when◌, number}
use Rattle.model.specs.Calls.{Call, call_count, advance_call, numbered, answers}
use Rattle.model.specs.Tick.{clock_step, quantum_step, quantum_ends, timer_tick, limit_tick, before_limits}
use Rattle.model.specs.Kernel.{call}

-- ---- 1: the table of answers

-- the rows that can apply to a request: 1, then 2, or those of the call that it numbers
unfoldable pub rows_of : Option Call → Request → State → List Given
rows_of none q s = (NoCall when true) ∷ []
rows_of (some c) q s = answers c q s

unfoldable pub rows : State → Request → List Given
rows s q = (Unsound when not (sound s)) ∷ rows_of (numbered q.call) q s

-- one of these rows has the number n and applies
abbrev pub applies_in : ℕ → List Given → Bool
applies_in n [] = false
applies_in n (g ∷ gs) = (eqb (number g.answer) n && g.due) || applies_in n gs

unfoldable pub applies : ℕ → State → Request → Bool
applies n s q = applies_in n (rows s q)

-- what 01 says of several calls at once, told a second time, by their numbers and from the fields: which calls there are
abbrev pub is_call : Request → Bool
is_call q = ltb 0 q.call && leb q.call call_count

-- which create what is there
abbrev pub creates_existing : Request → State → Bool
creates_existing q s =
    (eqb q.call 1 && has_thread q.id s)
    || (eqb q.call 9 && has_semaphore q.id s)
    || (eqb q.call 12 && has_mutex q.id s)
    || (eqb q.call 15 && has_flags q.id s)

-- which need a running thread
abbrev pub needs_running : Request → Bool
needs_running q = among q.call (4 ∷ 5 ∷ 6 ∷ 10 ∷ 13 ∷ 14 ∷ 16 ∷ [])

-- which would wait: a pend with no count left, a claim of another's mutex, a wait whose condition doesn't hold
abbrev pub would_wait : Request → State → Bool
would_wait q s =
    (eqb q.call 10 && eqb (semaphore q.id s).count 0)
    || (eqb q.call 13 && ltb 0 (mutex q.id s).depth && not (eqb (mutex q.id s).owner s.chosen))
    || (eqb q.call 16 && not (holds q.b q.a (flag_object q.id s).word))

-- which are refused with scheduling off: three always, a stop of the running thread, and those that would wait
abbrev pub needs_scheduling : Request → State → Bool
needs_scheduling q s = among q.call (4 ∷ 5 ∷ 6 ∷ []) || (eqb q.call 3 && eqb q.id s.chosen) || would_wait q s

-- which find no room: a post at the maximum that nobody waits for, a claim by the owner at 255 levels
abbrev pub is_full : Request → State → Bool
is_full q s =
    (eqb q.call 11 && eqb (semaphore q.id s).count (semaphore q.id s).maximum && eqb (length (list (semaphore_list q.id) s)) 0)
    || (eqb q.call 13 && eqb (mutex q.id s).depth 255 && eqb (mutex q.id s).owner s.chosen)

-- after which the caller sleeps or waits: a sleep always, and those that would wait
abbrev pub waits_or_sleeps : Request → State → Bool
waits_or_sleeps q s = eqb q.call 6 || would_wait q s

-- ---- 2: who is chosen

abbrev pub none_ready : State → Bool
none_ready s = every_below priority_count (λ p. eqb (length (ready_list p s)) 0)

-- the chosen thread is the first of this ready list, and all higher ones are empty
abbrev pub heads : ℕ → State → Bool
heads p s =
    ltb 0 (length (ready_list p s)) && eqb (head_or (ready_list p s) nobody) s.chosen
    && every_below priority_count (λ r. ltb p r implies eqb (length (ready_list r s)) 0)

-- nobody exactly where no thread is ready, else the head of the highest ready list that isn't empty
unfoldable pub heads_highest : State → Bool
heads_highest s =
    cond (none_ready s)
    (eqb s.chosen nobody)
    (not (eqb s.chosen nobody) && some_below priority_count (λ p. heads p s))

-- ---- 3: advances

-- the call in which n ticks pass
abbrev pub advancing : ℕ → Request
advancing n = record { call = advance_call; id = 0; a = n; b = 0; c = 0; d = 0 }

-- n calls, each of which advances by 1: the table after them, and the wake-ups that they report together
unfoldable pub one_by_one : ℕ → State → State
one_by_one zero s = s
one_by_one (suc n) s = one_by_one n (call s (advancing 1)).after

unfoldable pub reported : ℕ → State → ℕ
reported zero s = 0
reported (suc n) s = (call s (advancing 1)).report.wakeups + reported n (call s (advancing 1)).after

-- ---- 3: wake-ups, each step at its turn

-- step 2, timer o in step 3, thread i in step 4: its turn finds 1 left, so that it reaches 0 there
abbrev pub quantum_reaches_zero : State → Bool
quantum_reaches_zero s = quantum_ends (clock_step s)

abbrev pub timer_reaches_zero : ℕ → State → Bool
timer_reaches_zero o s = eqb (timer o (in_order o timer_tick (quantum_step (clock_step s)))).left 1

abbrev pub limit_reaches_zero : ℕ → State → Bool
limit_reaches_zero i s = eqb (thread i (in_order i limit_tick (before_limits s))).limit 1

-- ---- histories

unfoldable pub run_from : State → List Request → State
run_from s [] = s
run_from s (q ∷ qs) = run_from (call s q).after qs

-- the table after these calls, from a fresh one
abbrev pub run : List Request → State
run qs = run_from fresh qs
