-- A search that ends before the end has found.
use Rattle.table.proofs.Finds.{found_among}
use Rattle.table.proofs.lists.holds_id.Goals as goal

pub returns : goal.returns
returns c =
    rw c.find-k.ensures (found_among c.requires c.args.i)
