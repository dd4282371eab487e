-- 01, Calls: the calls by number, and for each the answers it can give, in the order in which they are tested. What an accepted call
-- does is said in Effects.antt.
use Rattle.std.specs.Prelude.{Bool, true, not, ◌&&◌, List, [], ◌∷◌, ℕ, zero, suc, ◌/◌, ◌%◌, eqb, leb, ltb}
use Rattle.std.proofs.Math.Option.{Option, none}
use Rattle.std.proofs.Math.ListN.{get_elem?}
use Rattle.sequences.specs.Lists.{all_zero}
use Rattle.model.specs.declared.answers.Answer.TheVariants.{NoObject, BadNumber, Exists, NobodyRuns, SchedulingOff, WrongState, Full, Waits}
use Rattle.model.specs.declared.requests.Request.{Request}
use Rattle.model.specs.State.{State, scheduling_on, nobody, thread_count, semaphore_count, mutex_count, flags_count, timer_count, semaphore_list}
use Rattle.model.specs.Parts.{semaphore, mutex, flag_object}
use Rattle.model.specs.Ranges.{is_bit, is_priority, fits_16, is_positive_16, fits_32, is_positive_32, has_thread, has_semaphore, has_mutex, has_flags, names_object, action_in_range}
use Rattle.model.specs.Words.{is_ready, is_stopped, owns, owns_any, holds}
use Rattle.model.specs.Sound.{waited_for}
use Rattle.model.specs.Answers.{Given, ◌when◌}

pub data Call : Type 0 where
  create_thread start stop exit yield sleep set_priority set_quantum : Call
  create_semaphore pend post : Call
  create_mutex claim release : Call
  create_flags wait set clear : Call
  start_timer stop_timer : Call
  scheduling advance : Call

-- in the order of their numbers, from 1 on
unfoldable pub calls : List Call
calls =
    create_thread ∷ start ∷ stop ∷ exit ∷ yield ∷ sleep ∷ set_priority ∷ set_quantum
    ∷ create_semaphore ∷ pend ∷ post
    ∷ create_mutex ∷ claim ∷ release
    ∷ create_flags ∷ wait ∷ set ∷ clear
    ∷ start_timer ∷ stop_timer
    ∷ scheduling ∷ advance
    ∷ []

-- how many there are, which is the last one's number
abbrev pub call_count : ℕ
call_count = 22

-- the call in which time passes: a number of its own, which stays as it is when calls are appended
abbrev pub advance_call : ℕ
advance_call = 22

abbrev pub is_advance : Request → Bool
is_advance q = eqb q.call advance_call

unfoldable pub numbered : ℕ → Option Call
numbered zero = none
numbered (suc n) = get_elem? calls n

-- c of call 19 holds the kind of the action and, times 256, its object
abbrev pub kind_of : Request → ℕ
kind_of q = q.c % 256

abbrev pub object_of : Request → ℕ
object_of q = q.c / 256

-- ---- what a call finds

-- the running thread is the chosen one
abbrev pub nobody_runs : State → Bool
nobody_runs s = eqb s.chosen nobody

abbrev pub scheduling_off : State → Bool
scheduling_off s = not (scheduling_on s)

-- the running thread would have to wait: no count left; another's mutex; its condition doesn't hold
abbrev pub pend_waits : Request → State → Bool
pend_waits q s = eqb (semaphore q.id s).count 0

abbrev pub claim_waits : Request → State → Bool
claim_waits q s = ltb 0 (mutex q.id s).depth && not (eqb (mutex q.id s).owner s.chosen)

abbrev pub wait_waits : Request → State → Bool
wait_waits q s = not (holds q.b q.a (flag_object q.id s).word)

-- ---- unused fields are 0

abbrev pub unused_abcd : Request → Bool
unused_abcd q = all_zero (q.a ∷ q.b ∷ q.c ∷ q.d ∷ [])

abbrev pub unused_bcd : Request → Bool
unused_bcd q = all_zero (q.b ∷ q.c ∷ q.d ∷ [])

abbrev pub unused_cd : Request → Bool
unused_cd q = all_zero (q.c ∷ q.d ∷ [])

abbrev pub unused_id : Request → Bool
unused_id q = eqb q.id 0

-- ---- the answers of each call other than 0, the lowest number first

unfoldable pub answers : Call → Request → State → List Given
answers create_thread q s =
    (NoObject when leb thread_count q.id)
    ∷ (BadNumber when not (is_priority q.a && fits_16 q.b && unused_cd q))
    ∷ (Exists when has_thread q.id s)
    ∷ []
answers start q s =
    (NoObject when not (has_thread q.id s))
    ∷ (BadNumber when not (unused_abcd q))
    ∷ (WrongState when not (is_stopped q.id s))
    ∷ []
answers stop q s =
    (NoObject when not (has_thread q.id s))
    ∷ (BadNumber when not (unused_abcd q))
    ∷ (SchedulingOff when scheduling_off s && eqb q.id s.chosen)
    ∷ (WrongState when not (is_ready q.id s))
    ∷ []
answers exit q s =
    (BadNumber when not (unused_id q && unused_abcd q))
    ∷ (NobodyRuns when nobody_runs s)
    ∷ (SchedulingOff when scheduling_off s)
    ∷ (WrongState when owns_any s.chosen s)
    ∷ []
answers yield q s =
    (BadNumber when not (unused_id q && unused_abcd q))
    ∷ (NobodyRuns when nobody_runs s)
    ∷ (SchedulingOff when scheduling_off s)
    ∷ []
answers sleep q s =
    (BadNumber when not (unused_id q && is_positive_32 q.a && unused_bcd q))
    ∷ (NobodyRuns when nobody_runs s)
    ∷ (SchedulingOff when scheduling_off s)
    ∷ (Waits when true)
    ∷ []
answers set_priority q s =
    (NoObject when not (has_thread q.id s))
    ∷ (BadNumber when not (is_priority q.a && unused_bcd q))
    ∷ []
answers set_quantum q s =
    (NoObject when not (has_thread q.id s))
    ∷ (BadNumber when not (fits_16 q.a && unused_bcd q))
    ∷ []
answers create_semaphore q s =
    (NoObject when leb semaphore_count q.id)
    ∷ (BadNumber when not (is_positive_16 q.b && leb q.a q.b && unused_cd q))
    ∷ (Exists when has_semaphore q.id s)
    ∷ []
answers pend q s =
    (NoObject when not (has_semaphore q.id s))
    ∷ (BadNumber when not (fits_32 q.a && unused_bcd q))
    ∷ (NobodyRuns when nobody_runs s)
    ∷ (SchedulingOff when scheduling_off s && pend_waits q s)
    ∷ (Waits when pend_waits q s)
    ∷ []
answers post q s =
    (NoObject when not (has_semaphore q.id s))
    ∷ (BadNumber when not (unused_abcd q))
    ∷ (Full when not (waited_for (semaphore_list q.id) s) && eqb (semaphore q.id s).count (semaphore q.id s).maximum)
    ∷ []
answers create_mutex q s =
    (NoObject when leb mutex_count q.id)
    ∷ (BadNumber when not (unused_abcd q))
    ∷ (Exists when has_mutex q.id s)
    ∷ []
answers claim q s =
    (NoObject when not (has_mutex q.id s))
    ∷ (BadNumber when not (fits_32 q.a && unused_bcd q))
    ∷ (NobodyRuns when nobody_runs s)
    ∷ (SchedulingOff when scheduling_off s && claim_waits q s)
    ∷ (Full when owns q.id s.chosen s && eqb (mutex q.id s).depth 255)
    ∷ (Waits when claim_waits q s)
    ∷ []
answers release q s =
    (NoObject when not (has_mutex q.id s))
    ∷ (BadNumber when not (unused_abcd q))
    ∷ (NobodyRuns when nobody_runs s)
    ∷ (WrongState when not (owns q.id s.chosen s))
    ∷ []
answers create_flags q s =
    (NoObject when leb flags_count q.id)
    ∷ (BadNumber when not (fits_16 q.a && unused_bcd q))
    ∷ (Exists when has_flags q.id s)
    ∷ []
answers wait q s =
    (NoObject when not (has_flags q.id s))
    ∷ (BadNumber when not (is_positive_16 q.a && leb q.b 3 && fits_32 q.c && eqb q.d 0))
    ∷ (NobodyRuns when nobody_runs s)
    ∷ (SchedulingOff when scheduling_off s && wait_waits q s)
    ∷ (Waits when wait_waits q s)
    ∷ []
answers set q s =
    (NoObject when not (has_flags q.id s))
    ∷ (BadNumber when not (is_positive_16 q.a && unused_bcd q))
    ∷ []
answers clear q s =
    (NoObject when not (has_flags q.id s))
    ∷ (BadNumber when not (is_positive_16 q.a && unused_bcd q))
    ∷ []
answers start_timer q s =
    (NoObject when not (ltb q.id timer_count && names_object (kind_of q) (object_of q) s))
    ∷ (BadNumber when not (is_positive_32 q.a && is_bit q.b && action_in_range (kind_of q) (object_of q) q.d))
    ∷ []
answers stop_timer q s =
    (NoObject when leb timer_count q.id)
    ∷ (BadNumber when not (unused_abcd q))
    ∷ []
answers scheduling q s =
    (BadNumber when not (unused_id q && is_bit q.a && unused_bcd q))
    ∷ []
answers advance q s =
    (BadNumber when not (unused_id q && fits_32 q.a && unused_bcd q))
    ∷ []
