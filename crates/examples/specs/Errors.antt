-- The five errors that 01 warns of at its end: a case for each, in that order. A kernel with the error fails
-- the case.
use Rattle.std.specs.Prelude.{List, [], ◌∷◌}
use Rattle.model.specs.State.{fresh}
use Rattle.examples.specs.Asking.{create_thread, start, sleep, create_flags, wait, start_timer, advance}
use Rattle.examples.specs.Probes.{Case, ◌is◌, ◌gives◌then◌, end, answer, chosen, wakeups, next, left, result, delivered, timer_left, expiries}

unfoldable pub errors : List Case
errors =
    -- a shorter timer brings the next wake-up nearer
    record {
      from = fresh;
      steps =
          start_timer 0 100 0 0 0 0 gives answer is 0 ∷ next is 100 ∷ [] then
          start_timer 1 7 0 0 0 0 gives answer is 0 ∷ next is 7 ∷ [] then
          advance 7 gives answer is 0 ∷ wakeups is 1 ∷ next is 93 ∷ [] then
          end;
    }
    -- a repeating timer expires as often as its period fits into a long advance
    ∷ record {
      from = fresh;
      steps =
          start_timer 0 4 1 0 0 0 gives answer is 0 ∷ [] then
          advance 21 gives answer is 0 ∷ expiries 0 is 5 ∷ wakeups is 5 ∷ timer_left 0 is 3 ∷ [] then
          end;
    }
    -- timers before limits: a set in the tick of the limit counts, and the waiter is delivered the word
    ∷ record {
      from = fresh;
      steps =
          create_thread 0 2 0 gives answer is 0 ∷ [] then
          start 0 gives answer is 0 ∷ [] then
          create_flags 0 0 gives answer is 0 ∷ [] then
          start_timer 0 10 0 2 0 0x0040 gives answer is 0 ∷ [] then
          wait 0 0x0040 0 10 gives answer is 10 ∷ next is 10 ∷ [] then
          advance 10 gives answer is 0 ∷ result 0 is 1 ∷ delivered 0 is 0x0040 ∷ wakeups is 1 ∷ chosen is 0 ∷ [] then
          end;
    }
    -- a preempted thread is chosen again before others of its priority
    ∷ record {
      from = fresh;
      steps =
          create_thread 3 4 0 gives answer is 0 ∷ [] then
          create_thread 2 4 0 gives answer is 0 ∷ [] then
          create_thread 1 6 0 gives answer is 0 ∷ [] then
          start 3 gives answer is 0 ∷ [] then
          start 2 gives answer is 0 ∷ [] then
          start 1 gives answer is 0 ∷ chosen is 1 ∷ [] then
          sleep 1 gives answer is 10 ∷ chosen is 3 ∷ [] then
          end;
    }
    -- who shares its priority with nobody spends nothing of its quantum
    ∷ record {
      from = fresh;
      steps =
          create_thread 0 2 3 gives answer is 0 ∷ [] then
          create_thread 1 3 3 gives answer is 0 ∷ [] then
          start 0 gives answer is 0 ∷ [] then
          start 1 gives answer is 0 ∷ chosen is 1 ∷ next is 0 ∷ [] then
          advance 10 gives answer is 0 ∷ left 1 is 3 ∷ wakeups is 0 ∷ next is 0 ∷ [] then
          end;
    }
    ∷ []
