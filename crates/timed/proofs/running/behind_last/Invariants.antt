-- From the last counter down: those passed are 0.
use Prim.Native.Nat.{ℕ, ◌≤◌, ◌<◌}
use Rattle.timed.proofs.running.behind_last.Given as goal

abbrev pub invariant-loop-o : goal.invariant-loop-o
invariant-loop-o g l = (o : ℕ) → l.o ≤ o → o < l.count → goal.F-post g l.counter o 0
