-- What a word may assume of the table as it is stored, and what it hands back. `Orderly` is the model's test `orderly` as facts; a word's
-- result is orderly again, and seen as plain lists it is what the model's word makes of the table.
use Rattle.std.specs.Prelude.{◌≡◌, List, ℕ, ◌<◌, length, get_or}
use Rattle.rows.specs.Row.{Row, Rows, Held}
use Rattle.model.specs.declared.tables.Thread.{Thread}
use Rattle.model.specs.declared.tables.Semaphore.{Semaphore}
use Rattle.model.specs.declared.tables.Mutex.{Mutex}
use Rattle.model.specs.declared.tables.Flags.{Flags}
use Rattle.model.specs.declared.tables.Timer.{Timer}
use Rattle.model.specs.declared.tables.IdList.{IdList}
use Rattle.model.specs.declared.tables.Table.{Table}
use Rattle.model.specs.State.{State, thread_count, priority_count, semaphore_count, mutex_count, flags_count, timer_count, list_count, places}
use Rattle.model.specs.Before as layout
use Rattle.model.specs.Before.{view, list_at}
use Rattle.placed.specs.Placed.{Placed}

-- a stored list that holds these ids
abbrev pub Listed : IdList → List ℕ → Type 0
Listed l ids = Held places l.ids l.length ids

-- the table's arrays: each has its length, and each list is a row
pub record Arrays (ts : List Thread) (ss : List Semaphore) (ms : List Mutex) (fs : List Flags) (rs : List Timer) (ls : List IdList) : Type 0 where
  pub threads : length ts ≡ thread_count
  pub semaphores : length ss ≡ semaphore_count
  pub mutexes : length ms ≡ mutex_count
  pub flags : length fs ≡ flags_count
  pub timers : length rs ≡ timer_count
  pub waits : length ls ≡ list_count
  pub lists : (j : ℕ) → j < list_count → Row places (list_at ls j).ids (list_at ls j).length

-- the table by itself; what it holds beside its arrays can't break the order
abbrev pub OrderlyTable : Table → Type 0
OrderlyTable t = Arrays t.threads t.semaphores t.mutexes t.flags t.timers t.waits

pub record Orderly (t : Table) (rows : layout.Rows) : Type 0 where
  pub table : OrderlyTable t
  pub ready : Rows places priority_count rows t.lengths

-- a word that leaves the rows alone: r is t after f, whatever the rows
pub record Meets (t : Table) (f : State → State) (r : Table) : Type 0 where
  pub order : OrderlyTable r
  pub lengths : r.lengths ≡ t.lengths
  pub view : (rows : layout.Rows) → view r rows ≡ f (view t rows)

-- a word that changes table and rows
pub record Does (t : Table) (rows : layout.Rows) (f : State → State) (r : Table) (after : layout.Rows) : Type 0 where
  pub order : Orderly r after
  pub view : view r after ≡ f (view t rows)

-- an orderly table on which threads stand as they must
pub record Whole (t : Table) (rows : layout.Rows) : Type 0 where
  pub order : Orderly t rows
  pub placed : Placed (layout.view t rows)

-- what a word about a thread asks: that, and a thread's id
pub record Given (t : Table) (rows : layout.Rows) (i : ℕ) : Type 0 where
  pub whole : Whole t rows
  pub thread : i < thread_count

-- what the place of thread i in list j asks: both are there, and the list holds threads' ids
pub record Ranked (t : Table) (j i : ℕ) : Type 0 where
  pub list : j < list_count
  pub thread : i < thread_count
  pub ids : (k : ℕ) → k < (list_at t.waits j).length → get_or (list_at t.waits j).ids k 0 < thread_count
