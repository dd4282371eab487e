use native.Mathlib.Omega.{arith}
use Rattle.links.proofs.Ways.{walk_reads, walk-next, walk_on}
use Rattle.links.proofs.walking.cell_at.Goals as goal

pub bounds-links-y : goal.bounds-links-y
bounds-links-y c = walk_reads c.loop.invariant

pub id_of-y-requires : goal.id_of-y-requires
id_of-y-requires c = omega (arith, walk-next c.loop.invariant (omega (arith, c.requires.j_lt_m.1)))

pub loop-preserved : goal.loop-preserved
loop-preserved c = rw c.id_of-y.ensures (walk_on c.loop.invariant (omega (arith, c.requires.j_lt_m.1)))
