-- A fresh table is sound, and so is every table that calls can make of it.
use mathlib.Core.Path.{◌≡◌, refl}
use mathlib.Core.Bool.{true}
use mathlib.Core.List.{List, [], ◌∷◌}
use Rattle.sequences.specs.Lists.{every_below, some_below}
use Rattle.model.specs.declared.requests.Request.{Request}
use Rattle.model.specs.State.{State, fresh}
use Rattle.model.specs.Words.{owns_any}
use Rattle.model.specs.Sound.{shaped, thread_in_range, semaphore_in_range, mutex_in_range, flags_in_range, timer_in_range, ids_in_range, fields_in_range, each_on_one_list, absent_threads_zero, ready_by_priority, wait_lists_fall, currents_fit, awaited_semaphores_empty, counts_within_maximum, unowned_written_zero, awaited_mutexes_owned, owners_created, owners_wait_elsewhere, conditions_unmet, flag_waiters_masked, timers_within_period, unused_timers_zero, actions_fit, sleepers_limited, others_unlimited, others_maskless, waits_without_result, quanta_fit, absent_semaphores_zero, absent_mutexes_zero, absent_flags_zero, choice_fits, clauses, sound_but_choice, sound}
use Rattle.model.specs.Kernel.{call}
use Rattle.model.specs.Promises.{run_from, run}
use Rattle.theorems.proofs.Demand2.{sound-call}

pub fresh-sound : sound fresh ≡ true
unfolding fresh every_below some_below owns_any shaped thread_in_range semaphore_in_range mutex_in_range flags_in_range timer_in_range ids_in_range fields_in_range each_on_one_list absent_threads_zero ready_by_priority wait_lists_fall currents_fit awaited_semaphores_empty counts_within_maximum unowned_written_zero awaited_mutexes_owned owners_created owners_wait_elsewhere conditions_unmet flag_waiters_masked timers_within_period unused_timers_zero actions_fit sleepers_limited others_unlimited others_maskless waits_without_result quanta_fit absent_semaphores_zero absent_mutexes_zero absent_flags_zero choice_fits clauses sound_but_choice sound
fresh-sound = refl

from-sound : (qs : List Request) (s : State) → sound s ≡ true → sound (run_from s qs) ≡ true
unfolding run_from
from-sound [] s whole = whole
from-sound (q ∷ qs) s whole = from-sound qs (call s q).after (sound-call s q whole)

-- a part of a history from its start is a history, so that every table on the way is meant
pub run_sound : (qs : List Request) → sound (run qs) ≡ true
run_sound qs = from-sound qs fresh fresh-sound
