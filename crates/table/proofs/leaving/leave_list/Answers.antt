-- One list stored without the id.
use Rattle.sequences.specs.Lists.{without}
use Rattle.table.proofs.Views.{stored_list}
use Rattle.table.proofs.leaving.leave_list.Goals as goal

pub without-shrunk-requires : goal.without-shrunk-requires
without-shrunk-requires c = record { row = c.requires.orderly_table.lists c.args.j c.requires.j_bound.0; l_bound = c.requires.j_bound.1 }

pub returns : goal.returns
returns c =
    stored_list c.args.t c.requires.orderly_table c.args.j c.requires.j_bound.0 c.without-shrunk.result (without c.args.i) c.without-shrunk.ensures
