-- One list stored with the id at the place that its rank gives.
use mathlib.Core.List.{[]}
use Rattle.sequences.specs.Lists.{insert_at}
use Rattle.model.specs.Words.{rank, enter_by_priority}
use Rattle.table.proofs.Views.{stored_list, meets_word, rank-at-most}
use Rattle.table.proofs.entering.enter_by_priority.Goals as goal

pub with_at-grown-requires : goal.with_at-grown-requires
unfolding rank
with_at-grown-requires c =
    let row = c.requires.orderly_table.lists c.args.j c.requires.ranked.list in record { row = row; length_bound = (c.requires.j_bound, rank-at-most c.args.t c.args.i c.args.j row (c.rank-k.ensures [])) }

pub returns : goal.returns
unfolding enter_by_priority
returns c =
    meets_word (enter_by_priority c.args.j c.args.i)
    (stored_list c.args.t c.requires.orderly_table c.args.j c.requires.ranked.list c.with_at-grown.result (insert_at c.rank-k.result c.args.i) c.with_at-grown.ensures)
    (λ rows. rw (c.rank-k.ensures rows))
