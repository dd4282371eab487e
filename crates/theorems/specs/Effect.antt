-- The effect of a call by its number, before the choice. Time passes in no call but 22, which isn't here.
use Rattle.std.proofs.Math.Option.{Option, none, some}
use Rattle.model.specs.declared.requests.Request.{Request}
use Rattle.model.specs.State.{State}
use Rattle.model.specs.Calls.{Call, create_thread, start, stop, exit, yield, sleep, set_priority, set_quantum, create_semaphore, pend, post, create_mutex, claim, release, create_flags, wait, set, clear, start_timer, stop_timer, scheduling, advance, numbered}
use Rattle.model.specs.Effects.{create_thread_effect, start_effect, stop_effect, exit_effect, yield_effect, sleep_effect, set_priority_effect, set_quantum_effect}
use Rattle.model.specs.Effects.{create_semaphore_effect, pend_effect, post_effect, create_mutex_effect, claim_effect, release_effect}
use Rattle.model.specs.Effects.{create_flags_effect, wait_effect, set_effect, clear_effect, start_timer_effect, stop_timer_effect, scheduling_effect}

unfoldable pub effect_of : Call → Request → State → State
effect_of create_thread q s = create_thread_effect q s
effect_of start q s = start_effect q s
effect_of stop q s = stop_effect q s
effect_of exit q s = exit_effect q s
effect_of yield q s = yield_effect q s
effect_of sleep q s = sleep_effect q s
effect_of set_priority q s = set_priority_effect q s
effect_of set_quantum q s = set_quantum_effect q s
effect_of create_semaphore q s = create_semaphore_effect q s
effect_of pend q s = pend_effect q s
effect_of post q s = post_effect q s
effect_of create_mutex q s = create_mutex_effect q s
effect_of claim q s = claim_effect q s
effect_of release q s = release_effect q s
effect_of create_flags q s = create_flags_effect q s
effect_of wait q s = wait_effect q s
effect_of set q s = set_effect q s
effect_of clear q s = clear_effect q s
effect_of start_timer q s = start_timer_effect q s
effect_of stop_timer q s = stop_timer_effect q s
effect_of scheduling q s = scheduling_effect q s
effect_of advance q s = s

unfoldable pub effect_by : Option Call → Request → State → State
effect_by none q s = s
effect_by (some c) q s = effect_of c q s

abbrev pub effect : Request → State → State
effect q s = effect_by (numbered q.call) q s
