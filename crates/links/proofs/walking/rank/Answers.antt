use native.Mathlib.Omega.{arith}
use borrow.Author.Tests.{lt-ltb, le-ltb}
use Rattle.links.proofs.Ways.{walk_reads, walk_known, walk_count, walk_closer, rank-on, rank_hit, rank-end}
use Rattle.links.proofs.walking.rank.Goals as goal

pub bounds-links-y : goal.bounds-links-y
bounds-links-y c = walk_reads c.loop-y.invariant.way

pub overflow_mul-stride : goal.overflow_mul-stride
overflow_mul-stride c =
    omega (arith, c.requires.by_index c.id_of-x.result (rw c.id_of-x.ensures (walk_known c.loop-y.invariant.way c.loop-y-test.true)))

pub overflow_add-from : goal.overflow_add-from
overflow_add-from c =
    omega (arith, c.requires.by_index c.id_of-x.result (rw c.id_of-x.ensures (walk_known c.loop-y.invariant.way c.loop-y-test.true)))

pub bounds-values-from : goal.bounds-values-from
bounds-values-from c =
    c.requires.by_index c.id_of-x.result (rw c.id_of-x.ensures (walk_known c.loop-y.invariant.way c.loop-y-test.true))

pub returns-then-values-from : goal.returns-then-values-from
returns-then-values-from c =
    rank_hit c.loop-y.invariant c.loop-y-test.true (rw c.id_of-x.ensures at (lt-ltb _ _ c.if-values-from.true))

pub overflow_add-k : goal.overflow_add-k
overflow_add-k c =
    omega (arith, walk_count c.loop-y.invariant.way c.loop-y-test.true, c.ranges.n)

pub loop-y-smaller : goal.loop-y-smaller
loop-y-smaller c = walk_closer c.loop-y.invariant.way c.loop-y-test.true

pub loop-y-preserved : goal.loop-y-preserved
loop-y-preserved c =
    rw c.id_of-x.ensures (rank-on c.loop-y.invariant c.loop-y-test.true (rw c.id_of-x.ensures at (le-ltb _ _ c.if-values-from.false)))

pub returns : goal.returns
returns c = rank-end c.loop-y.invariant c.loop-y-test.false
