-- From the old beginning up: those passed have no limit either.
use Rattle.model.specs.Layout.{view}
use Rattle.timed.specs.Running.{LimitsFrom}
use Rattle.timed.proofs.running.limits_begin.Given as goal

abbrev pub invariant-loop-i : goal.invariant-loop-i
invariant-loop-i l = LimitsFrom l.i l.end (view l.image)
