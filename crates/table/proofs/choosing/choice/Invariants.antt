-- From the highest priority down: the choice among all lists is the choice among those still to be looked at.
use mathlib.Core.Path.{◌≡◌}
use lib.ListN.{take}
use Rattle.sequences.specs.Lists.{last_nonempty, take_each}
use Rattle.table.proofs.choosing.choice.Given as goal

abbrev pub invariant-loop-p : goal.invariant-loop-p
invariant-loop-p l = last_nonempty (take_each l.lengths l.rows) ≡ last_nonempty (take l.p (take_each l.lengths l.rows))
