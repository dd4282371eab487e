-- The first place with a lower current priority is the model's rank.
use mathlib.Core.Path.{◌∙◌}
use Rattle.model.specs.Before.{view}
use Rattle.model.specs.Words.{rank}
use Rattle.table.proofs.Views.{list-view}
use Rattle.table.proofs.entering.rank.Goals as goal

pub place_below-requires : goal.place_below-requires
place_below-requires c = record { n_bound = (c.requires.orderly_table.lists c.args.j c.requires.ranked.list).room; by_index = c.requires.ranked.ids }

pub returns : goal.returns
unfolding rank view
returns c rows =
    c.place_below.ensures ∙ rw (c.thread-x.ensures, list-view c.args.t rows c.args.j)
