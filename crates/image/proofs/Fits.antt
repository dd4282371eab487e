-- What a table must be like for its image to hold it: each number below its width, each array of its length.
use mathlib.Core.List.{List}
use Prim.Native.Nat.{ℕ, ◌<◌}
use Rattle.sequences.proofs.Codecs.{Many}
use Rattle.model.specs.declared.tables.Thread.{Thread}
use Rattle.model.specs.declared.tables.Semaphore.{Semaphore}
use Rattle.model.specs.declared.tables.Mutex.{Mutex}
use Rattle.model.specs.declared.tables.Flags.{Flags}
use Rattle.model.specs.declared.tables.Timer.{Timer}
use Rattle.model.specs.declared.tables.IdList.{IdList}
use Rattle.model.specs.declared.tables.Table.{Table}
use Rattle.model.specs.Before.{Rows}

abbrev pub One : ℕ → Type 0
One n = n < 256

abbrev pub Two : ℕ → Type 0
Two n = n < 65536

abbrev pub Four : ℕ → Type 0
Four n = n < 4294967296

-- ---- records

pub record ThreadFits (t : Thread) : Type 0 where
  pub created : One t.created
  pub base : One t.base
  pub current : One t.current
  pub quantum : Two t.quantum
  pub left : Two t.left
  pub limit : Four t.limit
  pub result : One t.result
  pub mask : Two t.mask
  pub mode : One t.mode
  pub delivered : Two t.delivered

pub record SemaphoreFits (x : Semaphore) : Type 0 where
  pub created : One x.created
  pub count : Two x.count
  pub maximum : Two x.maximum

pub record MutexFits (x : Mutex) : Type 0 where
  pub created : One x.created
  pub owner : One x.owner
  pub depth : One x.depth

pub record FlagsFits (x : Flags) : Type 0 where
  pub created : One x.created
  pub word : Two x.word

pub record TimerFits (t : Timer) : Type 0 where
  pub period : Four t.period
  pub left : Four t.left
  pub repeat : One t.repeat
  pub kind : One t.kind
  pub object : One t.object
  pub mask : Two t.mask
  pub count : Four t.count

abbrev pub RowFits : List ℕ → Type 0
RowFits ids = Many 16 One ids

pub record ListFits (l : IdList) : Type 0 where
  pub length : One l.length
  pub ids : RowFits l.ids

-- ---- a table with its ready rows

pub record TableFits (t : Table) (rows : Rows) : Type 0 where
  pub clock : Four t.clock
  pub off : One t.off
  pub chosen : One t.chosen
  pub threads : Many 16 ThreadFits t.threads
  pub semaphores : Many 8 SemaphoreFits t.semaphores
  pub mutexes : Many 4 MutexFits t.mutexes
  pub flags : Many 4 FlagsFits t.flags
  pub timers : Many 8 TimerFits t.timers
  pub lengths : Many 8 One t.lengths
  pub ready : Many 8 RowFits rows
  pub waits : Many 18 ListFits t.waits
