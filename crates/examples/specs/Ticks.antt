-- 01, One tick: quanta, timers and scheduling off at the edges; cases that tell apart two ways to read it (docs/DECISIONS.md). What is
-- said of wake-ups and of the next one is expected here too.
use Rattle.std.specs.Prelude.{List, [], ◌∷◌}
use Rattle.model.specs.State.{fresh}
use Rattle.model.specs.Parts.{alter_timer, with_time}
use Rattle.model.specs.Promises.{run}
use Rattle.examples.specs.Asking.{create_thread, start, yield, sleep, set_priority, create_semaphore, pend, create_flags, start_timer, stop_timer, scheduling, advance}
use Rattle.examples.specs.Probes.{Case, ◌is◌, ◌gives◌then◌, end, answer, chosen, clock, wakeups, next, left, count, word, timer_left, expiries, ready_length, ready_at}

unfoldable pub ticking : List Case
ticking =
    -- a rotation at the end of a quantum renews it; none counts with scheduling off, and none is chosen there
    record {
      from = fresh;
      steps =
          create_thread 0 2 1 gives answer is 0 ∷ [] then
          create_thread 1 2 5 gives answer is 0 ∷ [] then
          start 0 gives answer is 0 ∷ [] then
          start 1 gives answer is 0 ∷ next is 1 ∷ [] then
          advance 1 gives answer is 0 ∷ chosen is 1 ∷ left 0 is 1 ∷ left 1 is 5 ∷ wakeups is 1 ∷ next is 5 ∷ [] then
          scheduling 0 gives answer is 0 ∷ next is 0 ∷ [] then
          set_priority 0 7 gives answer is 0 ∷ chosen is 1 ∷ [] then
          advance 9 gives answer is 0 ∷ chosen is 1 ∷ left 1 is 5 ∷ wakeups is 0 ∷ clock is 10 ∷ [] then
          scheduling 1 gives answer is 0 ∷ chosen is 0 ∷ [] then
          end;
    }
    -- everything that falls due in one tick is one wake-up, a lost post and an action of nothing among it; the count is kept by a start
    ∷ record {
      from = fresh;
      steps =
          create_semaphore 0 1 1 gives answer is 0 ∷ [] then
          start_timer 0 5 1 1 0 0 gives answer is 0 ∷ [] then
          start_timer 1 5 0 0 0 0 gives answer is 0 ∷ [] then
          advance 4294967296 gives answer is 4 ∷ clock is 0 ∷ [] then
          advance 0 gives answer is 0 ∷ wakeups is 0 ∷ timer_left 0 is 5 ∷ [] then
          advance 10 gives answer is 0 ∷ wakeups is 2 ∷ count 0 is 1 ∷ expiries 0 is 2 ∷ expiries 1 is 1 ∷ timer_left 1 is 0 ∷ [] then
          start_timer 0 9 0 0 0 0 gives answer is 0 ∷ expiries 0 is 2 ∷ timer_left 0 is 9 ∷ [] then
          stop_timer 0 gives answer is 0 ∷ timer_left 0 is 0 ∷ expiries 0 is 2 ∷ next is 0 ∷ [] then
          stop_timer 0 gives answer is 0 ∷ [] then
          end;
    }
    -- scheduling off: who is made ready isn't chosen, by calls and by ticks; on again, the choice is made
    ∷ record {
      from = fresh;
      steps =
          scheduling 1 gives answer is 0 ∷ [] then
          scheduling 0 gives answer is 0 ∷ [] then
          create_thread 0 2 4 gives answer is 0 ∷ [] then
          start 0 gives answer is 0 ∷ chosen is 255 ∷ ready_at 2 0 is 0 ∷ [] then
          advance 3 gives answer is 0 ∷ chosen is 255 ∷ [] then
          yield gives answer is 6 ∷ [] then
          scheduling 1 gives answer is 0 ∷ chosen is 0 ∷ left 0 is 4 ∷ [] then
          end;
    }
    -- step 2 goes by the lists at the tick's start: who becomes ready in the tick makes the quantum count only from the next on
    ∷ record {
      from = fresh;
      steps =
          create_thread 0 2 2 gives answer is 0 ∷ [] then
          create_thread 1 2 0 gives answer is 0 ∷ [] then
          start 1 gives answer is 0 ∷ [] then
          sleep 1 gives answer is 10 ∷ [] then
          start 0 gives answer is 0 ∷ next is 1 ∷ [] then
          advance 1 gives answer is 0 ∷ left 0 is 2 ∷ ready_length 2 is 2 ∷ wakeups is 1 ∷ next is 2 ∷ [] then
          advance 1 gives answer is 0 ∷ left 0 is 1 ∷ wakeups is 0 ∷ [] then
          advance 1 gives answer is 0 ∷ left 0 is 2 ∷ chosen is 1 ∷ wakeups is 1 ∷ next is 0 ∷ [] then
          end;
    }
    -- a set that wakes nobody is a wake-up; a repeating timer that was stopped stays so
    ∷ record {
      from = fresh;
      steps =
          create_flags 3 0 gives answer is 0 ∷ [] then
          start_timer 7 3 0 2 3 1 gives answer is 0 ∷ [] then
          start_timer 6 2 1 0 0 0 gives answer is 0 ∷ [] then
          stop_timer 6 gives answer is 0 ∷ [] then
          advance 10 gives answer is 0 ∷ wakeups is 1 ∷ word 3 is 1 ∷ expiries 6 is 0 ∷ next is 0 ∷ [] then
          end;
    }
    -- an expiry count goes round as the clock does
    ∷ record {
      from = alter_timer 0 (with_time 1 4294967295) (run (start_timer 0 3 1 0 0 0 ∷ []));
      steps =
          advance 1 gives answer is 0 ∷ expiries 0 is 0 ∷ timer_left 0 is 3 ∷ [] then
          advance 3 gives answer is 0 ∷ expiries 0 is 1 ∷ [] then
          end;
    }
    -- who is preempted by a tick keeps its place, too
    ∷ record {
      from = fresh;
      steps =
          create_thread 0 2 0 gives answer is 0 ∷ [] then
          create_thread 1 2 0 gives answer is 0 ∷ [] then
          create_thread 2 6 0 gives answer is 0 ∷ [] then
          start 2 gives answer is 0 ∷ [] then
          sleep 1 gives answer is 10 ∷ [] then
          start 0 gives answer is 0 ∷ [] then
          start 1 gives answer is 0 ∷ chosen is 0 ∷ [] then
          advance 1 gives answer is 0 ∷ chosen is 2 ∷ ready_at 2 0 is 0 ∷ ready_at 2 1 is 1 ∷ [] then
          end;
    }
    -- timers that end in one tick act by id
    ∷ record {
      from = fresh;
      steps =
          create_semaphore 0 0 1 gives answer is 0 ∷ [] then
          create_semaphore 1 0 1 gives answer is 0 ∷ [] then
          create_thread 5 2 0 gives answer is 0 ∷ [] then
          create_thread 4 2 0 gives answer is 0 ∷ [] then
          start 5 gives answer is 0 ∷ [] then
          pend 0 0 gives answer is 10 ∷ [] then
          start 4 gives answer is 0 ∷ [] then
          pend 1 0 gives answer is 10 ∷ [] then
          start_timer 1 3 0 1 1 0 gives answer is 0 ∷ [] then
          start_timer 0 3 0 1 0 0 gives answer is 0 ∷ [] then
          advance 3 gives answer is 0 ∷ ready_at 2 0 is 5 ∷ ready_at 2 1 is 4 ∷ chosen is 5 ∷ wakeups is 1 ∷ [] then
          end;
    }
    ∷ []
