-- What every declared table is, whatever its fields hold: its arrays have their lengths.
use Rattle.std.specs.Prelude.{◌≡◌, length}
use Rattle.model.specs.declared.tables.Table.{Table}
use Rattle.model.specs.State.{list_count}
use Rattle.model.specs.Before.{Rows}

pub record Shape (t : Table) (beside : Rows) : Type 0 where
  pub threads : length t.threads ≡ 16
  pub semaphores : length t.semaphores ≡ 8
  pub mutexes : length t.mutexes ≡ 4
  pub flags : length t.flags ≡ 4
  pub timers : length t.timers ≡ 8
  pub lengths : length t.lengths ≡ 8
  pub waits : length t.waits ≡ list_count
  pub rows : length beside ≡ 8
