-- A sound table in which something of everything is going on, made by calls from a fresh one: waits of each kind, a raised owner, a
-- sleeper, a stopped thread, a shared priority, timers. Damages.antt and Stored.antt break it in one place after another.
use Rattle.std.specs.Prelude.{[], ◌∷◌}
use Rattle.model.specs.State.{State}
use Rattle.model.specs.Promises.{run}
use Rattle.examples.specs.Asking.{create_thread, start, sleep, create_semaphore, pend, create_mutex, claim, create_flags, wait, start_timer, stop_timer}

unfoldable pub busy : State
busy =
    run
    (create_semaphore 0 0 3
    ∷ create_semaphore 1 2 2
    ∷ create_mutex 0
    ∷ create_mutex 1
    ∷ create_flags 0 0
    -- 2 and 8 wait for semaphore 0, 2 first by its priority
    ∷ create_thread 8 1 0
    ∷ start 8
    ∷ pend 0 0
    ∷ create_thread 2 5 0
    ∷ start 2
    ∷ pend 0 70
    -- 3 owns mutex 0, raised by 4, who waits for it
    ∷ create_thread 3 4 0
    ∷ start 3
    ∷ claim 0 0
    ∷ create_thread 4 6 0
    ∷ start 4
    ∷ claim 0 0
    -- 5 waits for a flag, 6 sleeps, 7 is stopped
    ∷ create_thread 5 7 0
    ∷ start 5
    ∷ wait 0 0x0001 0 50
    ∷ create_thread 6 7 0
    ∷ start 6
    ∷ sleep 9
    ∷ create_thread 7 2 0
    -- 0 and 1 are ready at one priority with a quantum, below 3, who runs
    ∷ create_thread 0 3 5
    ∷ start 0
    ∷ create_thread 1 3 5
    ∷ start 1
    -- a timer runs, another has been stopped
    ∷ start_timer 0 100 1 2 0 0x8000
    ∷ start_timer 1 30 1 1 0 0
    ∷ stop_timer 1
    ∷ [])
