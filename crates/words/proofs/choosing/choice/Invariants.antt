-- From the highest priority down: the choice among all lists is the choice among those still to be looked at.
use mathlib.Core.Path.{◌≡◌}
use Prim.Native.Nat.{◌≤◌}
use lib.ListN.{take}
use Rattle.sequences.specs.Lists.{last_nonempty}
use Rattle.model.specs.Layout.{view}
use Rattle.words.proofs.choosing.choice.Given as goal

abbrev pub invariant-loop-p : goal.invariant-loop-p
invariant-loop-p l = (l.p ≤ 8) × (last_nonempty (view l.image).ready ≡ last_nonempty (take l.p (view l.image).ready))
