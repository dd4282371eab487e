-- Refusals at the edges: the two unmarked examples of 01, and cases that tell apart two ways to read it (docs/DECISIONS.md): ranges,
-- unused fields, and which of several faults is answered.
use Rattle.std.specs.Prelude.{List, [], ◌∷◌, suc}
use Rattle.model.specs.State.{fresh}
use Rattle.model.specs.Parts.{with_clock, with_chosen, alter_mutex, with_owner}
use Rattle.model.specs.Calls.{call_count}
use Rattle.model.specs.Promises.{run}
use Rattle.examples.specs.Asking.{ask, create_thread, start, stop, exit, yield, sleep, set_priority, set_quantum, create_semaphore, pend, post, create_mutex, claim, release, create_flags, wait, set, clear, start_timer, stop_timer, scheduling, advance}
use Rattle.examples.specs.Probes.{Case, ◌is◌, ◌gives◌then◌, end, answer, chosen, clock, wakeups, next, current, quantum, left, result, delivered, count, owner, depth, word, list_length, list_at}

unfoldable pub refusals : List Case
refusals =
    -- thread 16 at priority 8, thread 0 at priority 8; a thread that is there, at priority 8 and at 7
    record {
      from = fresh;
      steps =
          create_thread 16 8 0 gives answer is 3 ∷ [] then
          create_thread 0 8 0 gives answer is 4 ∷ [] then
          create_thread 0 7 65535 gives answer is 0 ∷ [] then
          create_thread 0 8 0 gives answer is 4 ∷ [] then
          create_thread 0 7 65536 gives answer is 4 ∷ [] then
          create_thread 0 7 0 gives answer is 5 ∷ quantum 0 is 65535 ∷ [] then
          end;
    }
    -- an unsound table, whatever is asked: somebody is chosen who isn't ready
    ∷ record {
      from = with_clock 77 (with_chosen 3 fresh);
      steps =
          advance 5 gives answer is 1 ∷ chosen is 255 ∷ clock is 0 ∷ wakeups is 0 ∷ next is 0 ∷ [] then
          ask 99 0 0 0 0 0 gives answer is 1 ∷ [] then
          end;
    }
    -- no such call, whatever the other fields; the table's own clock is reported
    ∷ record {
      from = with_clock 77 fresh;
      steps =
          ask 0 300 9 9 9 9 gives answer is 2 ∷ clock is 77 ∷ [] then
          ask (suc call_count) 0 0 0 0 0 gives answer is 2 ∷ [] then
          ask 257 0 4 0 0 0 gives answer is 2 ∷ [] then
          end;
    }
    -- ids: out of range, absent, and where a call has none
    ∷ record {
      from = fresh;
      steps =
          ask 2 256 0 0 0 0 gives answer is 3 ∷ [] then
          start 0 gives answer is 3 ∷ [] then
          pend 8 0 gives answer is 3 ∷ [] then
          stop_timer 8 gives answer is 3 ∷ [] then
          ask 22 1 5 0 0 0 gives answer is 4 ∷ clock is 0 ∷ [] then
          ask 5 256 0 0 0 0 gives answer is 4 ∷ [] then
          ask 20 7 0 0 0 1 gives answer is 4 ∷ [] then
          stop_timer 7 gives answer is 0 ∷ [] then
          end;
    }
    -- nobody runs: 4 before 6, 6 before 8
    ∷ record {
      from = fresh;
      steps =
          create_mutex 0 gives answer is 0 ∷ [] then
          sleep 0 gives answer is 4 ∷ [] then
          sleep 1 gives answer is 6 ∷ [] then
          exit gives answer is 6 ∷ [] then
          release 0 gives answer is 6 ∷ [] then
          end;
    }
    -- an owner's exit is 8, with scheduling off 7; the running thread's stop is 7 only then
    ∷ record {
      from = fresh;
      steps =
          create_thread 1 2 0 gives answer is 0 ∷ [] then
          start 1 gives answer is 0 ∷ chosen is 1 ∷ [] then
          create_mutex 0 gives answer is 0 ∷ [] then
          claim 0 0 gives answer is 0 ∷ result 1 is 1 ∷ [] then
          exit gives answer is 8 ∷ [] then
          scheduling 0 gives answer is 0 ∷ [] then
          exit gives answer is 7 ∷ [] then
          stop 1 gives answer is 7 ∷ [] then
          scheduling 0 gives answer is 0 ∷ [] then
          scheduling 1 gives answer is 0 ∷ [] then
          stop 1 gives answer is 0 ∷ chosen is 255 ∷ list_at 1 0 is 1 ∷ owner 0 is 1 ∷ [] then
          stop 1 gives answer is 8 ∷ [] then
          start 1 gives answer is 0 ∷ chosen is 1 ∷ [] then
          start 1 gives answer is 8 ∷ [] then
          end;
    }
    -- a depth of 255 is full for its owner, and for another a mutex to wait for
    ∷ record {
      from = alter_mutex 0 (with_owner 1 255) (run (create_thread 1 2 0 ∷ start 1 ∷ create_mutex 0 ∷ claim 0 0 ∷ []));
      steps =
          claim 0 0 gives answer is 9 ∷ depth 0 is 255 ∷ [] then
          create_thread 2 3 0 gives answer is 0 ∷ [] then
          start 2 gives answer is 0 ∷ chosen is 2 ∷ [] then
          claim 0 0 gives answer is 10 ∷ chosen is 1 ∷ current 1 is 3 ∷ [] then
          release 0 gives answer is 0 ∷ depth 0 is 254 ∷ current 1 is 3 ∷ [] then
          end;
    }
    -- an unowned mutex is written as if 0 owned it, and isn't thread 0's to release
    ∷ record {
      from = fresh;
      steps =
          create_thread 0 2 0 gives answer is 0 ∷ [] then
          start 0 gives answer is 0 ∷ chosen is 0 ∷ [] then
          create_mutex 3 gives answer is 0 ∷ [] then
          release 3 gives answer is 8 ∷ [] then
          claim 3 0 gives answer is 0 ∷ depth 3 is 1 ∷ [] then
          claim 3 0 gives answer is 0 ∷ depth 3 is 2 ∷ [] then
          release 3 gives answer is 0 ∷ depth 3 is 1 ∷ [] then
          release 3 gives answer is 0 ∷ depth 3 is 0 ∷ [] then
          release 3 gives answer is 8 ∷ [] then
          end;
    }
    -- the action of a timer: kind beyond 2, an object for kind 0, objects out of range or absent, masks
    ∷ record {
      from = fresh;
      steps =
          create_semaphore 0 0 1 gives answer is 0 ∷ [] then
          create_flags 0 0 gives answer is 0 ∷ [] then
          start_timer 0 10 0 3 300 0 gives answer is 4 ∷ [] then
          start_timer 0 10 0 0 1 0 gives answer is 4 ∷ [] then
          start_timer 0 10 0 0 0 1 gives answer is 4 ∷ [] then
          start_timer 0 10 0 1 256 0 gives answer is 3 ∷ [] then
          start_timer 0 10 0 1 1 9 gives answer is 3 ∷ [] then
          start_timer 0 10 0 1 0 1 gives answer is 4 ∷ [] then
          start_timer 0 10 0 2 4 0 gives answer is 3 ∷ [] then
          start_timer 0 10 0 2 0 0 gives answer is 4 ∷ [] then
          start_timer 0 10 0 2 0 65536 gives answer is 4 ∷ [] then
          start_timer 0 0 0 2 0 65535 gives answer is 4 ∷ [] then
          start_timer 0 10 2 2 0 65535 gives answer is 4 ∷ [] then
          start_timer 8 10 0 2 0 65535 gives answer is 3 ∷ [] then
          start_timer 0 4294967295 0 2 0 65535 gives answer is 0 ∷ next is 4294967295 ∷ [] then
          end;
    }
    -- counts and maxima
    ∷ record {
      from = fresh;
      steps =
          create_semaphore 0 2 1 gives answer is 4 ∷ [] then
          create_semaphore 0 0 0 gives answer is 4 ∷ [] then
          create_semaphore 0 0 65536 gives answer is 4 ∷ [] then
          create_semaphore 0 65535 65535 gives answer is 0 ∷ [] then
          create_semaphore 0 0 1 gives answer is 5 ∷ count 0 is 65535 ∷ [] then
          end;
    }
    -- fields that a call doesn't use, filled in one after another
    ∷ record {
      from = fresh;
      steps =
          create_thread 0 3 0 gives answer is 0 ∷ [] then
          create_flags 0 0 gives answer is 0 ∷ [] then
          ask 2 0 1 0 0 0 gives answer is 4 ∷ [] then
          ask 2 0 0 1 0 0 gives answer is 4 ∷ [] then
          ask 2 0 0 0 1 0 gives answer is 4 ∷ [] then
          ask 2 0 0 0 0 1 gives answer is 4 ∷ [] then
          ask 1 1 3 0 1 0 gives answer is 4 ∷ [] then
          ask 1 1 3 0 0 1 gives answer is 4 ∷ [] then
          start 0 gives answer is 0 ∷ [] then
          ask 6 1 1 0 0 0 gives answer is 4 ∷ [] then
          ask 6 0 1 1 0 0 gives answer is 4 ∷ [] then
          ask 6 0 1 0 1 0 gives answer is 4 ∷ [] then
          ask 6 0 1 0 0 1 gives answer is 4 ∷ [] then
          ask 4 0 1 0 0 0 gives answer is 4 ∷ [] then
          ask 21 1 1 0 0 0 gives answer is 4 ∷ [] then
          ask 16 0 1 0 0 1 gives answer is 4 ∷ [] then
          end;
    }
    -- masks, words, modes, priorities, quanta, scheduling: one past the range
    ∷ record {
      from = fresh;
      steps =
          create_flags 0 65536 gives answer is 4 ∷ [] then
          create_flags 0 65535 gives answer is 0 ∷ [] then
          create_thread 0 0 0 gives answer is 0 ∷ [] then
          start 0 gives answer is 0 ∷ [] then
          wait 0 0 0 0 gives answer is 4 ∷ [] then
          wait 0 65536 0 0 gives answer is 4 ∷ [] then
          wait 0 1 4 0 gives answer is 4 ∷ [] then
          wait 0 65535 3 4294967295 gives answer is 10 ∷ next is 4294967295 ∷ [] then
          set 0 0 gives answer is 4 ∷ [] then
          set 0 65536 gives answer is 4 ∷ [] then
          clear 0 0 gives answer is 4 ∷ [] then
          clear 0 65536 gives answer is 4 ∷ [] then
          set_priority 0 8 gives answer is 4 ∷ [] then
          set_priority 0 7 gives answer is 0 ∷ current 0 is 7 ∷ [] then
          set_quantum 0 65536 gives answer is 4 ∷ [] then
          set_quantum 0 65535 gives answer is 0 ∷ left 0 is 65535 ∷ [] then
          scheduling 2 gives answer is 4 ∷ [] then
          end;
    }
    -- objects: ids past the range, and what is there already
    ∷ record {
      from = fresh;
      steps =
          create_semaphore 8 0 1 gives answer is 3 ∷ [] then
          create_mutex 4 gives answer is 3 ∷ [] then
          create_flags 4 0 gives answer is 3 ∷ [] then
          create_mutex 3 gives answer is 0 ∷ [] then
          create_mutex 3 gives answer is 5 ∷ [] then
          create_flags 3 1 gives answer is 0 ∷ [] then
          create_flags 3 2 gives answer is 5 ∷ word 3 is 1 ∷ [] then
          post 7 gives answer is 3 ∷ [] then
          claim 0 0 gives answer is 3 ∷ [] then
          claim 4 0 gives answer is 3 ∷ [] then
          release 0 gives answer is 3 ∷ [] then
          set 0 1 gives answer is 3 ∷ [] then
          clear 4 1 gives answer is 3 ∷ [] then
          end;
    }
    -- scheduling off: exit, yield and sleep are 7 always, a claim and a wait where they would wait; a mutex of another's isn't to be released
    ∷ record {
      from = fresh;
      steps =
          create_mutex 0 gives answer is 0 ∷ [] then
          create_mutex 1 gives answer is 0 ∷ [] then
          create_flags 0 5 gives answer is 0 ∷ [] then
          create_thread 1 2 0 gives answer is 0 ∷ [] then
          create_thread 2 3 0 gives answer is 0 ∷ [] then
          start 1 gives answer is 0 ∷ [] then
          claim 0 0 gives answer is 0 ∷ [] then
          start 2 gives answer is 0 ∷ chosen is 2 ∷ [] then
          release 0 gives answer is 8 ∷ [] then
          scheduling 0 gives answer is 0 ∷ [] then
          yield gives answer is 7 ∷ [] then
          sleep 1 gives answer is 7 ∷ [] then
          exit gives answer is 7 ∷ [] then
          claim 0 0 gives answer is 7 ∷ list_length 10 is 0 ∷ [] then
          claim 1 0 gives answer is 0 ∷ owner 1 is 2 ∷ [] then
          wait 0 2 0 0 gives answer is 7 ∷ list_length 14 is 0 ∷ [] then
          wait 0 4 0 0 gives answer is 0 ∷ delivered 2 is 5 ∷ [] then
          stop 1 gives answer is 0 ∷ chosen is 2 ∷ [] then
          end;
    }
    ∷ []
