-- From wake-up to wake-up while the next one is within what is left; then the rest is quiet.
use Rattle.model.specs.Before.{view}
use Rattle.time.proofs.Passing.{Passing}
use Rattle.time.proofs.pass.Given as goal

abbrev pub invariant-loop-gap : goal.invariant-loop-gap
invariant-loop-gap l = Passing (view l.t l.initial.rows) l.n l.u l.rows l.left l.woken l.gap

abbrev pub decreases-loop-gap : goal.decreases-loop-gap
decreases-loop-gap l = l.left
