-- Thread by thread: each turn, by either way, is the model's.
use Rattle.model.specs.Before.{view}
use Rattle.theorems.specs.Leap.{limit_leap}
use Rattle.time.proofs.Walking.{Walking}
use Rattle.time.proofs.LimitWalk.{threads, limit}
use Rattle.time.proofs.limits.leap_limits.Given as goal

abbrev pub invariant-loop-i : goal.invariant-loop-i
invariant-loop-i l = Walking (limit_leap l.gap) threads limit l.initial.soonest (view l.initial.u l.initial.rows) l.i l.u l.rows l.soonest
