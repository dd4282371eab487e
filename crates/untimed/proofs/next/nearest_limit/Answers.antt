-- The closure tells the counter that stands at each place.
use mathlib.Core.List.{map}
use borrow.Author.Rules.{rules}
use lib.ListN.{length-map}
use Rattle.model.specs.State.{absent_thread}
use Rattle.model.specs.declared.tables.Thread.{Thread}
use Rattle.model.specs.Layout.{view}
use Rattle.layout.proofs.Viewed.{many-threads}
use Rattle.untimed.proofs.Passing.{told}
use Rattle.untimed.proofs.next.nearest_limit.Goals as goal

pub returns : goal.returns
returns c =
    let l = (view c.args.image.now).threads in
    let f = λ (t : Thread). t.limit in
    c.nearest.ensures (map f l) (search (rules, length-map, many-threads)) (λ o r h p. told f l absent_thread h (search rules))
