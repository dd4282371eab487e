-- Every accepted call keeps a table sound: its effect leaves a lawful one, and the choice makes it sound.
use mathlib.Core.Path.{◌≡◌}
use mathlib.Core.Bool.{Bool, true, false}
use mathlib.Core.Option.{Option, none, some}
use Prim.Native.Nat.{ℕ}
use Rattle.sequences.proofs.Repeating.{ticks_keep}
use Rattle.model.specs.declared.requests.Request.{Request}
use Rattle.model.specs.State.{State}
use Rattle.model.specs.Words.{settle}
use Rattle.model.specs.Sound.{sound}
use Rattle.model.specs.Answers.{accepted, first-due}
use Rattle.model.specs.Calls.{answers}
use Rattle.model.specs.Calls.{Call, create_thread, start, stop, exit, yield, sleep, set_priority, set_quantum, create_semaphore, pend, post, create_mutex, claim, release, create_flags, wait, set, clear, start_timer, stop_timer, scheduling, advance}
use Rattle.model.specs.Tick.{tick}
use Rattle.model.specs.Time.{after_ticks}
use Rattle.model.specs.Kernel.{accept, judge, perform}
use Rattle.theorems.proofs.Choosing.{sound_steady, choose-sound}
use Rattle.theorems.proofs.Threads.{create_thread_unchosen, start_unchosen, stop_unchosen, exit_unchosen, yield_unchosen, sleep_unchosen, set_priority_unchosen, set_quantum_unchosen}
use Rattle.theorems.proofs.Semaphores.{create_semaphore_unchosen, pend_unchosen, post_unchosen}
use Rattle.theorems.proofs.Mutexes.{create_mutex_unchosen, claim_unchosen, release_unchosen}
use Rattle.theorems.proofs.FlagObjects.{create_flags_unchosen, wait_unchosen, set_unchosen, clear_unchosen}
use Rattle.theorems.proofs.Timers.{start_timer_unchosen, stop_timer_unchosen, scheduling_unchosen}
use Rattle.theorems.proofs.Ticking.{tick-sound}

pub ticks-sound : (n : ℕ) (s : State) → sound s ≡ true → sound (after_ticks n s) ≡ true
ticks-sound n s whole = ticks_keep (λ s. sound s ≡ true) tick tick-sound n s whole

accept-sound : (c : Call) (q : Request) (s : State) → sound s ≡ true → accepted (first-due (answers c q s)) ≡ true → sound (accept c q s) ≡ true
unfolding accept settle
accept-sound create_thread q s whole ok = choose-sound _ (create_thread_unchosen q s (sound_steady s whole) ok)
accept-sound start q s whole ok = choose-sound _ (start_unchosen q s (sound_steady s whole) ok)
accept-sound stop q s whole ok = choose-sound _ (stop_unchosen q s (sound_steady s whole) ok)
accept-sound exit q s whole ok = choose-sound _ (exit_unchosen q s (sound_steady s whole) ok)
accept-sound yield q s whole ok = choose-sound _ (yield_unchosen q s (sound_steady s whole) ok)
accept-sound sleep q s whole ok = choose-sound _ (sleep_unchosen q s (sound_steady s whole) ok)
accept-sound set_priority q s whole ok = choose-sound _ (set_priority_unchosen q s (sound_steady s whole) ok)
accept-sound set_quantum q s whole ok = choose-sound _ (set_quantum_unchosen q s (sound_steady s whole) ok)
accept-sound create_semaphore q s whole ok = choose-sound _ (create_semaphore_unchosen q s (sound_steady s whole) ok)
accept-sound pend q s whole ok = choose-sound _ (pend_unchosen q s (sound_steady s whole) ok)
accept-sound post q s whole ok = choose-sound _ (post_unchosen q s (sound_steady s whole) ok)
accept-sound create_mutex q s whole ok = choose-sound _ (create_mutex_unchosen q s (sound_steady s whole) ok)
accept-sound claim q s whole ok = choose-sound _ (claim_unchosen q s (sound_steady s whole) ok)
accept-sound release q s whole ok = choose-sound _ (release_unchosen q s (sound_steady s whole) ok)
accept-sound create_flags q s whole ok = choose-sound _ (create_flags_unchosen q s (sound_steady s whole) ok)
accept-sound wait q s whole ok = choose-sound _ (wait_unchosen q s (sound_steady s whole) ok)
accept-sound set q s whole ok = choose-sound _ (set_unchosen q s (sound_steady s whole) ok)
accept-sound clear q s whole ok = choose-sound _ (clear_unchosen q s (sound_steady s whole) ok)
accept-sound start_timer q s whole ok = choose-sound _ (start_timer_unchosen q s (sound_steady s whole) ok)
accept-sound stop_timer q s whole ok = choose-sound _ (stop_timer_unchosen q s (sound_steady s whole))
accept-sound scheduling q s whole ok = choose-sound _ (scheduling_unchosen q s (sound_steady s whole))
accept-sound advance q s whole ok = ticks-sound q.a s whole

pub perform-sound : (b : Bool) (c : Option Call) (q : Request) (s : State) → sound s ≡ true → accepted (judge c q s) ≡ b → sound (perform b c q s) ≡ true
unfolding perform judge
perform-sound false c q s whole e = whole
perform-sound true none q s whole e = whole
perform-sound true (some c) q s whole e = accept-sound c q s whole e
