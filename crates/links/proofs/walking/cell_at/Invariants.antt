-- As many ids lead up to the cell reached as turns were made.
use Rattle.links.specs.Walks.{Underway}
use Rattle.links.proofs.walking.cell_at.Given as goal

abbrev pub invariant-loop : goal.invariant-loop
invariant-loop l = Underway l.n l.m l.j l.links l.counter l.y
