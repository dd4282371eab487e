-- A search along the list.
use Prim.Native.Nat.{◌+◌, ◌*◌, ◌-◌}
use mathlib.Core.List.{[]}
use lib.Dec.{ltb}
use lib.ListN.{length, get_or}
use Rattle.sequences.specs.Links.{lists_in}
use Rattle.links.specs.Walks.{Ranking}
use Rattle.links.proofs.walking.rank.Given as goal

abbrev pub invariant-loop-y : goal.invariant-loop-y
invariant-loop-y l = Ranking l.n l.m l.j l.links (λ x. ltb (get_or l.values (l.from + l.stride * x) 0) l.p) l.k l.y

abbrev pub decreases-loop-y : goal.decreases-loop-y
decreases-loop-y l = length (get_or (lists_in l.n l.m l.links) l.j []) - l.k
