-- What the code knows of how far timers and limits have to be looked at.
use Rattle.model.specs.State.{State}
use Rattle.timed.specs.declared.running.Reach.{Reach}
use Rattle.timed.specs.Running.{TimersTo, LimitsFrom}

pub record Within (r : Reach) (s : State) : Type 0 where
  pub timers : TimersTo r.stop s
  pub limits : LimitsFrom r.from r.end s
