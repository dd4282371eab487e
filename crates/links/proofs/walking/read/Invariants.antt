-- After k turns the first k ids are in the row, and behind them the row is as it was.
use Prim.Native.Nat.{◌-◌}
use mathlib.Core.List.{[]}
use lib.ListN.{length, get_or}
use Rattle.sequences.specs.Links.{lists_in}
use Rattle.links.specs.Walks.{Reading}
use Rattle.links.proofs.walking.read.Given as goal

abbrev pub invariant-loop-y : goal.invariant-loop-y
invariant-loop-y l = Reading l.n l.m l.j l.links l.k l.y l.initial.out l.out

abbrev pub decreases-loop-y : goal.decreases-loop-y
decreases-loop-y l = length (get_or (lists_in l.n l.m l.links) l.j []) - l.k
