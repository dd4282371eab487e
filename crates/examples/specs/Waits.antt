-- A history for each kind of wait, at whose end a thread waits so: what the theorems ask, a sound table, can be met while it does.
use Rattle.std.specs.Prelude.{Bool, ◌&&◌, List, [], ◌∷◌, ℕ, ltb}
use Rattle.sequences.specs.Lists.{among}
use Rattle.model.specs.declared.requests.Request.{Request}
use Rattle.model.specs.State.{State, sleep_list, semaphore_list, mutex_list, flags_list}
use Rattle.model.specs.Parts.{thread, list}
use Rattle.model.specs.Sound.{sound}
use Rattle.model.specs.Promises.{run}
use Rattle.examples.specs.Asking.{create_thread, start, sleep, create_semaphore, pend, create_mutex, claim, create_flags, wait}

-- the thread, the list that it ends on, the calls
pub record Wait : Type 0 where
  pub waiter : ℕ
  pub on : ℕ
  pub history : List Request

-- the table is sound, and the thread stands on the list with a limit that runs
unfoldable pub sound_waiting : Wait → Bool
sound_waiting w =
    let s : State = run w.history in
    sound s && among w.waiter (list w.on s) && ltb 0 (thread w.waiter s).limit

unfoldable pub waits : List Wait
waits =
    record { waiter = 3; on = sleep_list; history = create_thread 3 4 0 ∷ start 3 ∷ sleep 9 ∷ [] }
    -- 2 waits ahead of 1, who came first
    ∷ record {
      waiter = 2;
      on = semaphore_list 5;
      history =
          create_semaphore 5 0 1 ∷ create_thread 1 3 0 ∷ start 1 ∷ pend 5 0
          ∷ create_thread 2 6 0 ∷ start 2 ∷ pend 5 70 ∷ [];
    }
    -- 4 raises the owner
    ∷ record {
      waiter = 4;
      on = mutex_list 3;
      history =
          create_mutex 3 ∷ create_thread 1 2 5 ∷ start 1 ∷ claim 3 0
          ∷ create_thread 4 6 0 ∷ start 4 ∷ claim 3 20 ∷ [];
    }
    ∷ record {
      waiter = 15;
      on = flags_list 0;
      history = create_flags 0 0x0005 ∷ create_thread 15 7 0 ∷ start 15 ∷ wait 0 0x0007 1 50 ∷ [];
    }
    ∷ []
