-- One list stored with the id behind all others.
use Rattle.sequences.specs.Lists.{snoc}
use Rattle.model.specs.Words.{enter_tail}
use Rattle.table.proofs.Views.{stored_list}
use Rattle.table.proofs.entering.enter_tail.Goals as goal

pub returns : goal.returns
unfolding enter_tail
returns c =
    stored_list c.args.t c.requires.orderly_table c.args.j c.requires.j_bound.0 c.with_tail-grown.result (snoc c.args.i) c.with_tail-grown.ensures
