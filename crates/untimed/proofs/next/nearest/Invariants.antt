-- From the last counter down: the least place so far is that of the nearest of those passed.
use mathlib.Core.Path.{◌≡◌}
use mathlib.Core.List.{List}
use Prim.Native.Nat.{ℕ}
use lib.ListN.{length, drop}
use Rattle.untimed.specs.Counters.{Nearest, Tells}
use Rattle.untimed.proofs.next.nearest.Given as goal

abbrev pub invariant-loop-o : goal.invariant-loop-o
invariant-loop-o g l =
    (counters : List ℕ) → length counters ≡ l.count → Tells (goal.F-post g l.counter) counters → Nearest (drop l.o counters) l.least
