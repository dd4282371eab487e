-- Effects at the edges: cases that tell apart two ways to read 01 (docs/DECISIONS.md). List 0 is the sleep list, 1 the stopped list,
-- 2 the wait list of semaphore 0, 10 that of mutex 0, 14 that of flag object 0.
use Rattle.std.specs.Prelude.{List, [], ◌∷◌}
use Rattle.model.specs.State.{fresh}
use Rattle.examples.specs.Asking.{create_thread, start, stop, exit, yield, sleep, set_priority, set_quantum, create_semaphore, pend, post, create_mutex, claim, release, create_flags, wait, set, clear, advance}
use Rattle.examples.specs.Probes.{Case, ◌is◌, ◌gives◌then◌, end, answer, chosen, clock, wakeups, next, base, current, quantum, left, limit, result, mask, mode, delivered, count, owner, depth, word, ready_at, list_length, list_at}

unfoldable pub effects : List Case
effects =
    -- a wait list goes by current priority, and among equals by arrival
    record {
      from = fresh;
      steps =
          create_semaphore 0 0 9 gives answer is 0 ∷ [] then
          create_thread 1 2 0 gives answer is 0 ∷ [] then
          create_thread 2 5 0 gives answer is 0 ∷ [] then
          create_thread 3 2 0 gives answer is 0 ∷ [] then
          create_thread 4 5 0 gives answer is 0 ∷ [] then
          start 1 gives answer is 0 ∷ [] then
          pend 0 0 gives answer is 10 ∷ [] then
          start 2 gives answer is 0 ∷ [] then
          pend 0 0 gives answer is 10 ∷ [] then
          start 3 gives answer is 0 ∷ [] then
          pend 0 0 gives answer is 10 ∷ [] then
          start 4 gives answer is 0 ∷ [] then
          pend 0 0 gives answer is 10 ∷ list_at 2 0 is 2 ∷ list_at 2 1 is 4 ∷ list_at 2 2 is 1 ∷ list_at 2 3 is 3 ∷ [] then
          set_priority 3 5 gives answer is 0 ∷ list_at 2 0 is 2 ∷ list_at 2 1 is 4 ∷ list_at 2 2 is 3 ∷ list_at 2 3 is 1 ∷ [] then
          set_priority 2 5 gives answer is 0 ∷ list_at 2 0 is 2 ∷ [] then
          post 0 gives answer is 0 ∷ chosen is 2 ∷ result 2 is 1 ∷ count 0 is 0 ∷ list_length 2 is 3 ∷ [] then
          end;
    }
    -- release: first the releaser goes down to a tail, behind it the new owner
    ∷ record {
      from = fresh;
      steps =
          create_mutex 0 gives answer is 0 ∷ [] then
          create_thread 0 2 0 gives answer is 0 ∷ [] then
          create_thread 1 3 0 gives answer is 0 ∷ [] then
          create_thread 2 2 0 gives answer is 0 ∷ [] then
          start 0 gives answer is 0 ∷ [] then
          claim 0 0 gives answer is 0 ∷ [] then
          start 2 gives answer is 0 ∷ chosen is 0 ∷ [] then
          start 1 gives answer is 0 ∷ chosen is 1 ∷ [] then
          claim 0 0 gives answer is 10 ∷ current 0 is 3 ∷ base 0 is 2 ∷ chosen is 0 ∷ [] then
          set_priority 1 2 gives answer is 0 ∷ current 0 is 3 ∷ [] then
          set_priority 0 1 gives answer is 0 ∷ current 0 is 3 ∷ base 0 is 1 ∷ [] then
          set_priority 0 2 gives answer is 0 ∷ current 0 is 3 ∷ [] then
          release 0 gives answer is 0 ∷ ready_at 2 0 is 2 ∷ ready_at 2 1 is 0 ∷ ready_at 2 2 is 1 ∷ chosen is 2 ∷ owner 0 is 1 ∷ depth 0 is 1 ∷ result 1 is 1 ∷ [] then
          end;
    }
    -- one release takes all of a raise away, also from who has a second mutex
    ∷ record {
      from = fresh;
      steps =
          create_mutex 0 gives answer is 0 ∷ [] then
          create_mutex 1 gives answer is 0 ∷ [] then
          create_thread 0 2 0 gives answer is 0 ∷ [] then
          create_thread 1 6 0 gives answer is 0 ∷ [] then
          start 0 gives answer is 0 ∷ [] then
          claim 0 0 gives answer is 0 ∷ [] then
          claim 1 0 gives answer is 0 ∷ [] then
          start 1 gives answer is 0 ∷ chosen is 1 ∷ [] then
          claim 0 5 gives answer is 10 ∷ current 0 is 6 ∷ next is 5 ∷ [] then
          release 1 gives answer is 0 ∷ current 0 is 2 ∷ [] then
          advance 5 gives answer is 0 ∷ result 1 is 2 ∷ chosen is 1 ∷ list_length 10 is 0 ∷ limit 1 is 0 ∷ [] then
          end;
    }
    -- an owner who waits itself gets ahead in its wait list by a raise
    ∷ record {
      from = fresh;
      steps =
          create_mutex 0 gives answer is 0 ∷ [] then
          create_semaphore 0 0 1 gives answer is 0 ∷ [] then
          create_thread 0 2 0 gives answer is 0 ∷ [] then
          create_thread 1 3 0 gives answer is 0 ∷ [] then
          create_thread 2 4 0 gives answer is 0 ∷ [] then
          start 0 gives answer is 0 ∷ [] then
          claim 0 0 gives answer is 0 ∷ [] then
          pend 0 0 gives answer is 10 ∷ [] then
          start 1 gives answer is 0 ∷ [] then
          pend 0 0 gives answer is 10 ∷ list_at 2 0 is 1 ∷ list_at 2 1 is 0 ∷ [] then
          start 2 gives answer is 0 ∷ [] then
          claim 0 0 gives answer is 10 ∷ current 0 is 4 ∷ list_at 2 0 is 0 ∷ list_at 2 1 is 1 ∷ chosen is 255 ∷ [] then
          end;
    }
    -- a quantum is renewed by a choice that differs, and not by a yield alone in its list
    ∷ record {
      from = fresh;
      steps =
          create_thread 0 2 3 gives answer is 0 ∷ [] then
          create_thread 1 2 3 gives answer is 0 ∷ [] then
          create_thread 2 6 0 gives answer is 0 ∷ [] then
          start 0 gives answer is 0 ∷ [] then
          start 1 gives answer is 0 ∷ [] then
          advance 1 gives answer is 0 ∷ left 0 is 2 ∷ next is 2 ∷ [] then
          stop 1 gives answer is 0 ∷ next is 0 ∷ [] then
          yield gives answer is 0 ∷ left 0 is 2 ∷ chosen is 0 ∷ [] then
          start 2 gives answer is 0 ∷ chosen is 2 ∷ left 0 is 2 ∷ [] then
          exit gives answer is 0 ∷ chosen is 0 ∷ left 0 is 3 ∷ [] then
          set_quantum 0 9 gives answer is 0 ∷ left 0 is 9 ∷ quantum 0 is 9 ∷ [] then
          start 2 gives answer is 3 ∷ [] then
          create_thread 2 1 0 gives answer is 0 ∷ current 2 is 1 ∷ [] then
          end;
    }
    -- the running thread that takes another priority goes to a tail as any other; the same value moves nobody
    ∷ record {
      from = fresh;
      steps =
          create_thread 0 2 0 gives answer is 0 ∷ [] then
          create_thread 1 3 0 gives answer is 0 ∷ [] then
          start 0 gives answer is 0 ∷ [] then
          start 1 gives answer is 0 ∷ chosen is 1 ∷ [] then
          set_priority 1 2 gives answer is 0 ∷ chosen is 0 ∷ ready_at 2 0 is 0 ∷ ready_at 2 1 is 1 ∷ [] then
          set_priority 0 2 gives answer is 0 ∷ chosen is 0 ∷ [] then
          end;
    }
    -- set and clear wake several in list order with the new word, which stays; any clear and all clear
    ∷ record {
      from = fresh;
      steps =
          create_flags 0 0x0003 gives answer is 0 ∷ [] then
          create_thread 0 5 0 gives answer is 0 ∷ [] then
          create_thread 1 4 0 gives answer is 0 ∷ [] then
          create_thread 2 4 0 gives answer is 0 ∷ [] then
          start 0 gives answer is 0 ∷ [] then
          wait 0 0x0003 3 0 gives answer is 10 ∷ mode 0 is 3 ∷ mask 0 is 3 ∷ [] then
          start 1 gives answer is 0 ∷ [] then
          wait 0 0x0001 2 0 gives answer is 10 ∷ [] then
          start 2 gives answer is 0 ∷ [] then
          wait 0 0x0003 2 0 gives answer is 10 ∷ list_length 14 is 3 ∷ [] then
          clear 0 0x0001 gives answer is 0 ∷ word 0 is 2 ∷ ready_at 4 0 is 1 ∷ ready_at 4 1 is 2 ∷ delivered 2 is 2 ∷ mode 2 is 0 ∷ mask 2 is 0 ∷ chosen is 1 ∷ list_length 14 is 1 ∷ [] then
          wait 0 0x0002 0 0 gives answer is 0 ∷ result 1 is 1 ∷ delivered 1 is 2 ∷ word 0 is 2 ∷ [] then
          clear 0 0x0002 gives answer is 0 ∷ chosen is 0 ∷ delivered 0 is 0 ∷ result 0 is 1 ∷ [] then
          wait 0 0x0001 1 4 gives answer is 10 ∷ result 0 is 0 ∷ [] then
          advance 4 gives answer is 0 ∷ result 0 is 2 ∷ mode 0 is 0 ∷ mask 0 is 0 ∷ delivered 0 is 0 ∷ wakeups is 1 ∷ [] then
          end;
    }
    -- a ready owner goes behind the others of the priority it is raised to; to raise a waiter by call 7 raises no owner
    ∷ record {
      from = fresh;
      steps =
          create_mutex 0 gives answer is 0 ∷ [] then
          create_thread 0 2 0 gives answer is 0 ∷ [] then
          create_thread 8 5 0 gives answer is 0 ∷ [] then
          create_thread 9 5 0 gives answer is 0 ∷ [] then
          start 0 gives answer is 0 ∷ [] then
          claim 0 0 gives answer is 0 ∷ [] then
          start 9 gives answer is 0 ∷ [] then
          start 8 gives answer is 0 ∷ chosen is 9 ∷ [] then
          claim 0 0 gives answer is 10 ∷ ready_at 5 0 is 8 ∷ ready_at 5 1 is 0 ∷ chosen is 8 ∷ [] then
          set_priority 9 7 gives answer is 0 ∷ current 0 is 5 ∷ current 9 is 7 ∷ [] then
          end;
    }
    -- a raised owner that sleeps or is stopped keeps its place; a start goes by the current priority
    ∷ record {
      from = fresh;
      steps =
          create_mutex 0 gives answer is 0 ∷ [] then
          create_mutex 1 gives answer is 0 ∷ [] then
          create_thread 0 2 0 gives answer is 0 ∷ [] then
          create_thread 1 2 0 gives answer is 0 ∷ [] then
          create_thread 2 2 0 gives answer is 0 ∷ [] then
          create_thread 3 4 0 gives answer is 0 ∷ [] then
          create_thread 4 5 0 gives answer is 0 ∷ [] then
          start 1 gives answer is 0 ∷ [] then
          sleep 20 gives answer is 10 ∷ [] then
          start 0 gives answer is 0 ∷ [] then
          claim 0 0 gives answer is 0 ∷ [] then
          sleep 20 gives answer is 10 ∷ [] then
          start 2 gives answer is 0 ∷ [] then
          claim 1 0 gives answer is 0 ∷ [] then
          stop 2 gives answer is 0 ∷ chosen is 255 ∷ [] then
          start 3 gives answer is 0 ∷ [] then
          claim 0 0 gives answer is 10 ∷ current 0 is 4 ∷ list_at 0 0 is 1 ∷ list_at 0 1 is 0 ∷ [] then
          start 4 gives answer is 0 ∷ [] then
          claim 1 0 gives answer is 10 ∷ current 2 is 5 ∷ list_at 1 0 is 2 ∷ chosen is 255 ∷ [] then
          set_priority 1 6 gives answer is 0 ∷ list_at 0 0 is 1 ∷ list_at 0 1 is 0 ∷ [] then
          start 2 gives answer is 0 ∷ ready_at 5 0 is 2 ∷ chosen is 2 ∷ [] then
          advance 20 gives answer is 0 ∷ result 0 is 1 ∷ result 1 is 1 ∷ ready_at 4 0 is 0 ∷ chosen is 1 ∷ wakeups is 1 ∷ [] then
          end;
    }
    -- two who wait for each other's mutex are a sound table
    ∷ record {
      from = fresh;
      steps =
          create_mutex 0 gives answer is 0 ∷ [] then
          create_mutex 1 gives answer is 0 ∷ [] then
          create_thread 0 2 0 gives answer is 0 ∷ [] then
          create_thread 1 3 0 gives answer is 0 ∷ [] then
          start 0 gives answer is 0 ∷ [] then
          claim 0 0 gives answer is 0 ∷ [] then
          start 1 gives answer is 0 ∷ [] then
          claim 1 0 gives answer is 0 ∷ [] then
          claim 0 0 gives answer is 10 ∷ chosen is 0 ∷ current 0 is 3 ∷ [] then
          claim 1 0 gives answer is 10 ∷ chosen is 255 ∷ next is 0 ∷ [] then
          advance 5 gives answer is 0 ∷ wakeups is 0 ∷ clock is 5 ∷ [] then
          end;
    }
    -- a yield, a stop and a start keep the last result
    ∷ record {
      from = fresh;
      steps =
          create_semaphore 0 1 1 gives answer is 0 ∷ [] then
          create_thread 0 2 0 gives answer is 0 ∷ [] then
          start 0 gives answer is 0 ∷ [] then
          pend 0 0 gives answer is 0 ∷ result 0 is 1 ∷ count 0 is 0 ∷ [] then
          yield gives answer is 0 ∷ result 0 is 1 ∷ [] then
          stop 0 gives answer is 0 ∷ result 0 is 1 ∷ [] then
          start 0 gives answer is 0 ∷ result 0 is 1 ∷ [] then
          pend 0 3 gives answer is 10 ∷ result 0 is 0 ∷ [] then
          advance 3 gives answer is 0 ∷ result 0 is 2 ∷ [] then
          end;
    }
    -- a raise is one link long: 2 raises 1, who waits for 0's mutex, and 0 stays as it was
    ∷ record {
      from = fresh;
      steps =
          create_mutex 0 gives answer is 0 ∷ [] then
          create_mutex 1 gives answer is 0 ∷ [] then
          create_thread 0 2 0 gives answer is 0 ∷ [] then
          create_thread 1 3 0 gives answer is 0 ∷ [] then
          create_thread 2 6 0 gives answer is 0 ∷ [] then
          start 0 gives answer is 0 ∷ [] then
          claim 0 0 gives answer is 0 ∷ [] then
          start 1 gives answer is 0 ∷ [] then
          claim 1 0 gives answer is 0 ∷ [] then
          claim 0 0 gives answer is 10 ∷ current 0 is 3 ∷ [] then
          start 2 gives answer is 0 ∷ chosen is 2 ∷ [] then
          claim 1 0 gives answer is 10 ∷ current 1 is 6 ∷ current 0 is 3 ∷ list_at 10 0 is 1 ∷ chosen is 0 ∷ [] then
          release 0 gives answer is 0 ∷ chosen is 1 ∷ current 0 is 2 ∷ owner 0 is 1 ∷ ready_at 6 0 is 1 ∷ [] then
          end;
    }
    -- a set wakes two of three, in list order, each with the new word; any set and all set
    ∷ record {
      from = fresh;
      steps =
          create_flags 0 0x0010 gives answer is 0 ∷ [] then
          create_thread 0 5 0 gives answer is 0 ∷ [] then
          create_thread 1 4 0 gives answer is 0 ∷ [] then
          create_thread 2 4 0 gives answer is 0 ∷ [] then
          start 0 gives answer is 0 ∷ [] then
          wait 0 0x0007 1 0 gives answer is 10 ∷ [] then
          start 1 gives answer is 0 ∷ [] then
          wait 0 0x0006 0 0 gives answer is 10 ∷ [] then
          start 2 gives answer is 0 ∷ [] then
          wait 0 0x0012 1 0 gives answer is 10 ∷ list_length 14 is 3 ∷ [] then
          set 0 0x0002 gives answer is 0 ∷ word 0 is 0x0012 ∷ ready_at 4 0 is 1 ∷ ready_at 4 1 is 2 ∷ delivered 1 is 0x0012 ∷ delivered 2 is 0x0012 ∷ delivered 0 is 0 ∷ list_at 14 0 is 0 ∷ list_length 14 is 1 ∷ chosen is 1 ∷ [] then
          set 0 0x0005 gives answer is 0 ∷ word 0 is 0x0017 ∷ delivered 0 is 0x0017 ∷ chosen is 0 ∷ list_length 14 is 0 ∷ [] then
          end;
    }
    -- what was delivered is the whole word, and is kept until the next
    ∷ record {
      from = fresh;
      steps =
          create_flags 0 5 gives answer is 0 ∷ [] then
          create_thread 0 2 0 gives answer is 0 ∷ [] then
          start 0 gives answer is 0 ∷ [] then
          wait 0 4 0 0 gives answer is 0 ∷ delivered 0 is 5 ∷ result 0 is 1 ∷ word 0 is 5 ∷ [] then
          sleep 1 gives answer is 10 ∷ delivered 0 is 5 ∷ result 0 is 0 ∷ [] then
          advance 1 gives answer is 0 ∷ delivered 0 is 5 ∷ result 0 is 1 ∷ [] then
          end;
    }
    -- another priority moves nobody on the stopped list
    ∷ record {
      from = fresh;
      steps =
          create_thread 3 2 0 gives answer is 0 ∷ [] then
          create_thread 4 2 0 gives answer is 0 ∷ [] then
          set_priority 3 7 gives answer is 0 ∷ current 3 is 7 ∷ list_at 1 0 is 3 ∷ list_at 1 1 is 4 ∷ [] then
          end;
    }
    ∷ []
