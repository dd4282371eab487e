-- Thread by thread: each turn, by either way, is the model's.
use Rattle.model.specs.State.{absent_thread}
use Rattle.model.specs.Layout.{view}
use Rattle.theorems.specs.Leap.{limit_leap}
use Rattle.timed.specs.Limited.{Limited}
use Rattle.timed.proofs.Walking.{Walking}
use Rattle.timed.proofs.LimitWalk.{threads, limit}
use Rattle.timed.proofs.limits.leap_limits.Given as goal

abbrev pub invariant-loop-i : goal.invariant-loop-i
invariant-loop-i l =
    Walking (limit_leap l.ticks) threads limit absent_thread l.end (view l.initial.image) l.i l.image l.nearest l.moved × Limited (view l.image)
