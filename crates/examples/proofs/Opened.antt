-- One name for all definitions of the model: whoever unfolds it computes with the whole model. A definition that is added there is
-- added here, or the statements on examples no longer compute.
use Rattle.sequences.specs.Lists.{tabulate, every_below, some_below, count_below}
use Rattle.sequences.specs.Steps.{in_order, ticks, wakeups}
use Rattle.sequences.specs.Bytes.{flat}
use Rattle.sequences.specs.Records.{all}
use Rattle.sequences.specs.Links.{along, lists, half_of, once, orderly_links}
use Rattle.model.specs.State.{fresh}
use Rattle.model.specs.Words.{owns_any, leave, enter_tail, enter_ready, rank, enter_by_priority, become_ready, suspend, start_to_wait, start_to_sleep, wake, re_enter, take_priority, settle, choose}
use Rattle.model.specs.Sound.{shaped, thread_in_range, semaphore_in_range, mutex_in_range, flags_in_range, timer_in_range, ids_in_range, fields_in_range, each_on_one_list, absent_threads_zero, ready_by_priority, wait_lists_fall, currents_fit, awaited_semaphores_empty, counts_within_maximum, unowned_written_zero, awaited_mutexes_owned, owners_created, owners_wait_elsewhere, conditions_unmet, flag_waiters_masked, timers_within_period, unused_timers_zero, actions_fit, sleepers_limited, others_unlimited, others_maskless, waits_without_result, quanta_fit, absent_semaphores_zero, absent_mutexes_zero, absent_flags_zero, choice_fits, clauses, sound_but_choice, sound}
use Rattle.model.specs.Calls.{calls, numbered, answers}
use Rattle.model.specs.Effects.{create_thread_effect, start_effect, stop_effect, exit_effect, yield_effect, sleep_effect, set_priority_effect, set_quantum_effect, create_semaphore_effect, pend_effect, post_to, post_semaphore, post_effect, create_mutex_effect, raise, claim_effect, hand_over, fall, release_effect, create_flags_effect, wait_effect, wake_each, change_word, set_flags, set_effect, clear_effect, start_timer_effect, stop_timer_effect, act, scheduling_effect}
use Rattle.model.specs.Tick.{clock_step, quantum_counts, quantum_ends, quantum_step, timer_tick, timer_step, limit_tick, limit_step, before_limits, tick, timer_ends, limit_ends, wakes}
use Rattle.model.specs.Time.{next}
use Rattle.model.specs.Kernel.{accept, judge, answer, perform, next_state, call}
use Rattle.model.specs.Promises.{rows_of, rows, applies, heads_highest, one_by_one, reported, run_from}
use Rattle.model.specs.Layout.{view, lay, orderly, sound_image}
use Rattle.model.specs.Before.{view as view-before, lay_table, lay_rows, orderly as orderly-before, sound_table, call_by, call_table, fresh_table, fresh_rows}
use Rattle.model.specs.Stored.{singly, singly_told, next_told_by, next_told}
use Rattle.model.specs.Replay.{lines_from, replay}

unfoldable pub model : Unit {0}
unfolding tabulate every_below some_below count_below in_order ticks wakeups flat all along lists half_of once orderly_links fresh owns_any leave enter_tail enter_ready rank enter_by_priority become_ready suspend start_to_wait start_to_sleep wake re_enter take_priority settle choose shaped thread_in_range semaphore_in_range mutex_in_range flags_in_range timer_in_range ids_in_range fields_in_range each_on_one_list absent_threads_zero ready_by_priority wait_lists_fall currents_fit awaited_semaphores_empty counts_within_maximum unowned_written_zero awaited_mutexes_owned owners_created owners_wait_elsewhere conditions_unmet flag_waiters_masked timers_within_period unused_timers_zero actions_fit sleepers_limited others_unlimited others_maskless waits_without_result quanta_fit absent_semaphores_zero absent_mutexes_zero absent_flags_zero choice_fits clauses sound_but_choice sound calls numbered answers create_thread_effect start_effect stop_effect exit_effect yield_effect sleep_effect set_priority_effect set_quantum_effect create_semaphore_effect pend_effect post_to post_semaphore post_effect create_mutex_effect raise claim_effect hand_over fall release_effect create_flags_effect wait_effect wake_each change_word set_flags set_effect clear_effect start_timer_effect stop_timer_effect act scheduling_effect clock_step quantum_counts quantum_ends quantum_step timer_tick timer_step limit_tick limit_step before_limits tick timer_ends limit_ends wakes next accept judge answer perform next_state call rows_of rows applies heads_highest one_by_one reported run_from view lay orderly sound_image view-before lay_table lay_rows orderly-before sound_table call_by call_table fresh_table fresh_rows singly singly_told next_told_by next_told lines_from replay
model = tt
