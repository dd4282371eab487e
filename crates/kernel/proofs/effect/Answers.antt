-- The calls that leave the rows as they are, and the one in which time passes, which is not of these.
use Rattle.model.specs.Calls.{create_thread, set_quantum, create_semaphore, create_mutex, create_flags, start_timer, stop_timer, scheduling}
use Rattle.theorems.specs.Effect.{effect_of}
use Rattle.kernel.proofs.Numbered.{meets_effect, no_effect}
use Rattle.kernel.proofs.effect.Goals as goal

pub returns-in-Ok-CreateThread : goal.returns-in-Ok-CreateThread
unfolding effect_of
returns-in-Ok-CreateThread c = meets_effect create_thread (rw c.in-Ok-CreateThread.field-0-is at c.in-Ok-CreateThread.ensures) c.requires.accepted c.create_thread.ensures

pub returns-in-Ok-SetQuantum : goal.returns-in-Ok-SetQuantum
unfolding effect_of
returns-in-Ok-SetQuantum c = meets_effect set_quantum (rw c.in-Ok-SetQuantum.field-0-is at c.in-Ok-SetQuantum.ensures) c.requires.accepted c.set_quantum.ensures

pub returns-in-Ok-CreateSemaphore : goal.returns-in-Ok-CreateSemaphore
unfolding effect_of
returns-in-Ok-CreateSemaphore c = meets_effect create_semaphore (rw c.in-Ok-CreateSemaphore.field-0-is at c.in-Ok-CreateSemaphore.ensures) c.requires.accepted c.create_semaphore.ensures

pub returns-in-Ok-CreateMutex : goal.returns-in-Ok-CreateMutex
unfolding effect_of
returns-in-Ok-CreateMutex c = meets_effect create_mutex (rw c.in-Ok-CreateMutex.field-0-is at c.in-Ok-CreateMutex.ensures) c.requires.accepted c.create_mutex.ensures

pub returns-in-Ok-CreateFlags : goal.returns-in-Ok-CreateFlags
unfolding effect_of
returns-in-Ok-CreateFlags c = meets_effect create_flags (rw c.in-Ok-CreateFlags.field-0-is at c.in-Ok-CreateFlags.ensures) c.requires.accepted c.create_flags.ensures

pub returns-in-Ok-StartTimer : goal.returns-in-Ok-StartTimer
unfolding effect_of
returns-in-Ok-StartTimer c = meets_effect start_timer (rw c.in-Ok-StartTimer.field-0-is at c.in-Ok-StartTimer.ensures) c.requires.accepted c.start_timer.ensures

pub returns-in-Ok-StopTimer : goal.returns-in-Ok-StopTimer
unfolding effect_of
returns-in-Ok-StopTimer c = meets_effect stop_timer (rw c.in-Ok-StopTimer.field-0-is at c.in-Ok-StopTimer.ensures) c.requires.accepted c.stop_timer.ensures

pub returns-in-Ok-Scheduling : goal.returns-in-Ok-Scheduling
unfolding effect_of
returns-in-Ok-Scheduling c = meets_effect scheduling (rw c.in-Ok-Scheduling.field-0-is at c.in-Ok-Scheduling.ensures) c.requires.accepted c.scheduling.ensures

pub returns-in-Ok-Advance : goal.returns-in-Ok-Advance
returns-in-Ok-Advance c = no_effect (rw c.in-Ok-Advance.field-0-is at c.in-Ok-Advance.ensures) c.requires.accepted
