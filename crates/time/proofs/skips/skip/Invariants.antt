-- From the first record up: those passed are changed, the others stand as they did.
use Rattle.std.proofs.Common.{◌≡◌}
use Rattle.sequences.proofs.InOrder.{changed}
use Rattle.theorems.specs.Skip.{limit_less, time_less}
use Rattle.time.proofs.skips.skip.Given as goal

abbrev pub invariant-loop-x : goal.invariant-loop-x
invariant-loop-x l = l.x-items ≡ changed (limit_less l.m) l.x-index l.initial.x-items

abbrev pub invariant-loop-x-2 : goal.invariant-loop-x-2
invariant-loop-x-2 l = l.x-items ≡ changed (time_less l.m) l.x-index l.initial.x-items
