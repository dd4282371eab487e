-- The literal is the model's fresh state laid out, by computation.
use Rattle.model.specs.State.{fresh}
use Rattle.model.specs.Before.{fresh_table, lay_table}
use Rattle.table.proofs.fresh.fresh.Goals as goal

pub returns : goal.returns
unfolding fresh_table lay_table fresh
returns c =
    rw (
      c.absent_thread-thread.ensures,
      c.absent_semaphore-semaphore.ensures,
      c.absent_mutex-mutex.ensures,
      c.absent_flags-object.ensures,
      c.unused_timer-timer.ensures,
      c.empty_list-list.ensures,
    )
