-- The first place found is the only one.
use Rattle.table.proofs.Finds.{removed_first, kept-without}
use Rattle.table.proofs.lists.without.Goals as goal

pub returns-then-k-n : goal.returns-then-k-n
returns-then-k-n c =
    removed_first c.requires.row c.args.i c.requires.l_bound c.find-k.ensures c.remove-shrunk.ensures

pub returns-else-k-n : goal.returns-else-k-n
returns-else-k-n c =
    kept-without c.requires.row c.args.i (rw c.find-k.ensures at c.if-k-n.false)
