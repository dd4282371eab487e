use native.Mathlib.Omega.{arith}
use Rattle.links.proofs.Ways.{walk_reads, walk_count, walk_closer, read_on, read_end}
use Rattle.links.proofs.walking.read.Goals as goal

pub bounds-links-y : goal.bounds-links-y
bounds-links-y c = walk_reads c.loop-y.invariant.way

pub bounds-out-k : goal.bounds-out-k
bounds-out-k c =
    omega (arith, walk_count c.loop-y.invariant.way c.loop-y-test.true, c.loop-y.invariant.size)

pub loop-y-smaller : goal.loop-y-smaller
loop-y-smaller c = walk_closer c.loop-y.invariant.way c.loop-y-test.true

pub loop-y-preserved : goal.loop-y-preserved
loop-y-preserved c = rw c.id_of-y.ensures (read_on c.loop-y.invariant c.loop-y-test.true)

pub returns : goal.returns
returns c = read_end c.loop-y.invariant c.loop-y-test.false
