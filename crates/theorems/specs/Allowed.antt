-- What the effect of a call may assume: a sound table, and a call that is accepted on it.
use Rattle.std.specs.Prelude.{◌≡◌, true}
use Rattle.model.specs.declared.requests.Request.{Request}
use Rattle.model.specs.State.{State}
use Rattle.model.specs.Sound.{sound}
use Rattle.model.specs.Answers.{accepted, first-due}
use Rattle.model.specs.Calls.{Call, answers, numbered}
use Rattle.model.specs.Kernel.{judge}

pub record Allowed (c : Call) (q : Request) (s : State) : Type 0 where
  pub sound : sound s ≡ true
  pub passed : accepted (first-due (answers c q s)) ≡ true

-- the same by the call's number
pub record Accepted (q : Request) (s : State) : Type 0 where
  pub sound : sound s ≡ true
  pub passed : accepted (judge (numbered q.call) q s) ≡ true
