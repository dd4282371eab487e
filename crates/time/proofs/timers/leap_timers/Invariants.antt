-- Timer by timer: each turn, by any of its ways, is the model's.
use Rattle.model.specs.Before.{view}
use Rattle.theorems.specs.Leap.{timer_leap}
use Rattle.time.specs.Armed.{Armed}
use Rattle.time.proofs.Walking.{Walking}
use Rattle.time.proofs.TimerWalk.{timers, left}
use Rattle.time.proofs.timers.leap_timers.Given as goal

abbrev pub invariant-loop-o : goal.invariant-loop-o
invariant-loop-o l = Armed l.u × Walking (timer_leap l.gap) timers left 0 (view l.initial.u l.initial.rows) l.o l.u l.rows l.soonest
