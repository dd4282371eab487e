-- Behind the cell that the last link leads to, which all ids lead up to.
use mathlib.Core.List.{[]}
use lib.ListN.{length, get_or}
use Rattle.sequences.specs.Links.{lists_in}
use Rattle.links.proofs.Entered.{tail_cell, insert_last}
use Rattle.links.proofs.entering.enter_tail.Goals as goal

pub enter_behind-requires-clause-by_index : goal.enter_behind-requires-clause-by_index
enter_behind-requires-clause-by_index c =
    let l = get_or (lists_in c.args.n c.args.m c.args.links.now) c.args.j [] in
    (length l, rw c.cell_of-y.ensures (tail_cell c.requires.orderly c.requires.enters.list))

pub returns : goal.returns
returns c =
    let ls = lists_in c.args.n c.args.m c.args.links.now in
    rw (insert_last c.args.i c.args.j ls)
    at (c.enter_behind.ensures (length (get_or ls c.args.j [])) (rw c.cell_of-y.ensures (tail_cell c.requires.orderly c.requires.enters.list)))
