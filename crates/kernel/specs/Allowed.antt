-- What the effect of a call may assume: a sound table, and a call that is accepted on it.
use Rattle.std.specs.Prelude.{◌≡◌, true}
use Rattle.model.specs.declared.requests.Request.{Request}
use Rattle.model.specs.declared.tables.Table.{Table}
use Rattle.model.specs.Answers.{accepted, first-due}
use Rattle.model.specs.Calls.{Call, answers, numbered}
use Rattle.model.specs.Kernel.{judge}
use Rattle.model.specs.Before.{Rows, view, sound_table}

pub record Allowed (c : Call) (q : Request) (t : Table) (rows : Rows) : Type 0 where
  pub sound : sound_table t rows ≡ true
  pub passed : accepted (first-due (answers c q (view t rows))) ≡ true

-- the same by the call's number
pub record Accepted (q : Request) (t : Table) (rows : Rows) : Type 0 where
  pub sound : sound_table t rows ≡ true
  pub passed : accepted (judge (numbered q.call) q (view t rows)) ≡ true
