-- 01, Examples at the edges: P1 to P12, one table. Every value that the document names of them is an expected one, and
-- so is the answer of each call on the way. `cases-hold` in proofs/ is the one statement on all of them.
use Rattle.std.specs.Prelude.{List, [], ◌∷◌}
use Rattle.model.specs.State.{sleep_list, fresh}
use Rattle.model.specs.Parts.{with_clock}
use Rattle.examples.specs.Asking.{create_thread, start, yield, sleep, create_semaphore, pend, post, create_mutex, claim, release, create_flags, wait, set, start_timer, scheduling, advance}
use Rattle.examples.specs.Probes.{Case, ◌is◌, ◌gives◌then◌, end, answer, chosen, clock, wakeups, next, current, left, result, delivered, count, owner, timer_left, ready_length, list_length, ready_at, list_at}

unfoldable pub cases : List Case
cases =
    -- P1: time passes over a fresh table
    record {
      from = fresh;
      steps =
          advance 5 gives answer is 0 ∷ clock is 5 ∷ wakeups is 0 ∷ chosen is 255 ∷ next is 0 ∷ [] then
          end;
    }
    -- P2: two of one priority in the order of their start; a yield
    ∷ record {
      from = fresh;
      steps =
          create_thread 3 4 0 gives answer is 0 ∷ [] then
          create_thread 1 4 0 gives answer is 0 ∷ [] then
          start 3 gives answer is 0 ∷ [] then
          start 1 gives answer is 0 ∷ chosen is 3 ∷ [] then
          yield gives answer is 0 ∷ chosen is 1 ∷ [] then
          end;
    }
    -- P3: a higher one takes over, and the preempted one keeps its place
    ∷ record {
      from = fresh;
      steps =
          create_thread 3 4 0 gives answer is 0 ∷ [] then
          create_thread 2 4 0 gives answer is 0 ∷ [] then
          create_thread 1 6 0 gives answer is 0 ∷ [] then
          start 3 gives answer is 0 ∷ [] then
          start 2 gives answer is 0 ∷ [] then
          start 1 gives answer is 0 ∷ chosen is 1 ∷ ready_length 4 is 2 ∷ ready_at 4 0 is 3 ∷ ready_at 4 1 is 2 ∷ [] then
          end;
    }
    -- P4: a post up to the maximum, and one too many
    ∷ record {
      from = fresh;
      steps =
          create_semaphore 0 0 1 gives answer is 0 ∷ [] then
          post 0 gives answer is 0 ∷ [] then
          post 0 gives answer is 9 ∷ count 0 is 1 ∷ [] then
          end;
    }
    -- P5: two share a priority by their quanta: two ticks, and six from the same start
    ∷ record {
      from = fresh;
      steps =
          create_thread 0 2 3 gives answer is 0 ∷ [] then
          create_thread 1 2 3 gives answer is 0 ∷ [] then
          start 0 gives answer is 0 ∷ [] then
          start 1 gives answer is 0 ∷ chosen is 0 ∷ [] then
          advance 2 gives answer is 0 ∷ chosen is 0 ∷ left 0 is 1 ∷ [] then
          end;
    }
    ∷ record {
      from = fresh;
      steps =
          create_thread 0 2 3 gives answer is 0 ∷ [] then
          create_thread 1 2 3 gives answer is 0 ∷ [] then
          start 0 gives answer is 0 ∷ [] then
          start 1 gives answer is 0 ∷ chosen is 0 ∷ [] then
          advance 6 gives answer is 0 ∷ chosen is 0 ∷ wakeups is 2 ∷ [] then
          end;
    }
    -- P6: a repeating timer posts to a semaphore that nobody waits for
    ∷ record {
      from = fresh;
      steps =
          create_semaphore 0 0 5 gives answer is 0 ∷ [] then
          start_timer 0 10 1 1 0 0 gives answer is 0 ∷ [] then
          advance 35 gives answer is 0 ∷ count 0 is 3 ∷ wakeups is 3 ∷ timer_left 0 is 5 ∷ next is 5 ∷ [] then
          end;
    }
    -- P7: a post and a limit in the same tick
    ∷ record {
      from = fresh;
      steps =
          create_thread 0 2 0 gives answer is 0 ∷ [] then
          start 0 gives answer is 0 ∷ [] then
          create_semaphore 0 0 1 gives answer is 0 ∷ [] then
          start_timer 0 10 0 1 0 0 gives answer is 0 ∷ clock is 0 ∷ [] then
          pend 0 10 gives answer is 10 ∷ clock is 0 ∷ [] then
          advance 10 gives answer is 0 ∷ clock is 10 ∷ result 0 is 1 ∷ wakeups is 1 ∷ [] then
          end;
    }
    -- P8: the clock goes round
    ∷ record {
      from = with_clock 4294967295 fresh;
      steps =
          advance 1 gives answer is 0 ∷ clock is 0 ∷ [] then
          end;
    }
    -- P9: an owner is raised by a claim, and falls by its release
    ∷ record {
      from = fresh;
      steps =
          create_thread 1 2 0 gives answer is 0 ∷ [] then
          create_thread 5 6 0 gives answer is 0 ∷ [] then
          create_mutex 0 gives answer is 0 ∷ [] then
          start 1 gives answer is 0 ∷ chosen is 1 ∷ [] then
          claim 0 0 gives answer is 0 ∷ owner 0 is 1 ∷ [] then
          start 5 gives answer is 0 ∷ chosen is 5 ∷ [] then
          claim 0 0 gives answer is 10 ∷ current 1 is 6 ∷ chosen is 1 ∷ [] then
          release 0 gives answer is 0 ∷ owner 0 is 5 ∷ chosen is 5 ∷ current 1 is 2 ∷ [] then
          end;
    }
    -- P10: a wait for all of three flags, of which one is missing
    ∷ record {
      from = fresh;
      steps =
          create_thread 0 3 0 gives answer is 0 ∷ [] then
          start 0 gives answer is 0 ∷ [] then
          create_flags 0 0x0005 gives answer is 0 ∷ [] then
          wait 0 0x0007 1 0 gives answer is 10 ∷ ready_length 3 is 0 ∷ [] then
          set 0 0x0002 gives answer is 0 ∷ ready_length 3 is 1 ∷ ready_at 3 0 is 0 ∷ delivered 0 is 0x0007 ∷ [] then
          end;
    }
    -- P11: scheduling off refuses what would wait, and nothing else
    ∷ record {
      from = fresh;
      steps =
          create_thread 0 3 0 gives answer is 0 ∷ [] then
          start 0 gives answer is 0 ∷ [] then
          create_semaphore 0 0 1 gives answer is 0 ∷ [] then
          create_semaphore 1 1 1 gives answer is 0 ∷ [] then
          scheduling 0 gives answer is 0 ∷ [] then
          pend 0 0 gives answer is 7 ∷ [] then
          pend 1 0 gives answer is 0 ∷ [] then
          end;
    }
    -- P12: two sleepers whose time is up in one tick become ready by id, although the greater id slept first
    ∷ record {
      from = fresh;
      steps =
          create_thread 9 4 0 gives answer is 0 ∷ [] then
          create_thread 4 4 0 gives answer is 0 ∷ [] then
          start 9 gives answer is 0 ∷ [] then
          start 4 gives answer is 0 ∷ chosen is 9 ∷ [] then
          sleep 3 gives answer is 10 ∷ clock is 0 ∷ chosen is 4 ∷ [] then
          sleep 3 gives answer is 10 ∷ clock is 0 ∷ ready_length 4 is 0 ∷ list_length sleep_list is 2 ∷ list_at sleep_list 0 is 9 ∷ list_at sleep_list 1 is 4 ∷ [] then
          advance 3 gives answer is 0 ∷ wakeups is 1 ∷ ready_length 4 is 2 ∷ ready_at 4 0 is 4 ∷ ready_at 4 1 is 9 ∷ [] then
          end;
    }
    ∷ []
