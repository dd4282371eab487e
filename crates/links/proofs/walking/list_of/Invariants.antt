-- x stands where i stands, until x is the first.
use Prim.Native.Nat.{◌+◌}
use lib.ListN.{length, drop}
use Rattle.sequences.specs.Links.{along, leads, lists_in}
use Rattle.links.specs.Walks.{Together}
use Rattle.links.proofs.walking.list_of.Given as goal

abbrev pub invariant-loop-x : goal.invariant-loop-x
invariant-loop-x l = Together l.n (lists_in l.n l.m l.links) l.i l.x

abbrev pub decreases-loop-x : goal.decreases-loop-x
decreases-loop-x l = length (along (leads (drop (l.n + l.m) l.links)) l.n (leads (drop (l.n + l.m) l.links) l.x))
