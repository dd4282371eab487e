-- From wake-up to wake-up while the next one is within what is left; then the rest is quiet.
use Rattle.model.specs.Layout.{view}
use Rattle.timed.proofs.Passing.{Passing}
use Rattle.timed.proofs.pass.Given as goal

abbrev pub invariant-loop-left : goal.invariant-loop-left
invariant-loop-left l =
    Passing (view l.initial.image) l.n l.image l.left l.woken l.debt l.due l.quantum l.reach.stop l.reach.from l.reach.end

abbrev pub decreases-loop-left : goal.decreases-loop-left
decreases-loop-left l = l.left
