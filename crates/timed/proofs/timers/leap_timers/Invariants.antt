-- Timer by timer: each turn, by any of its ways, is the model's.
use Rattle.model.specs.State.{unused_timer}
use Rattle.model.specs.Layout.{view}
use Rattle.theorems.specs.Leap.{timer_leap}
use Rattle.timed.specs.Armed.{Armed}
use Rattle.timed.proofs.Walking.{Walking}
use Rattle.timed.proofs.TimerWalk.{timers, left}
use Rattle.timed.proofs.timers.leap_timers.Given as goal

abbrev pub invariant-loop-o : goal.invariant-loop-o
invariant-loop-o l =
    Armed (view l.image) × Walking (timer_leap l.ticks) timers left unused_timer l.end (view l.initial.image) l.o l.image l.nearest l.moved
