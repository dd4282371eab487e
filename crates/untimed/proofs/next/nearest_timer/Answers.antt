-- The closure tells the counter that stands at each place.
use mathlib.Core.List.{map}
use borrow.Author.Rules.{rules}
use lib.ListN.{length-map}
use Rattle.model.specs.State.{unused_timer}
use Rattle.model.specs.declared.tables.Timer.{Timer}
use Rattle.model.specs.Layout.{view}
use Rattle.layout.proofs.Viewed.{many_timers}
use Rattle.untimed.proofs.Passing.{told}
use Rattle.untimed.proofs.next.nearest_timer.Goals as goal

pub returns : goal.returns
returns c =
    let l = (view c.args.image.now).timers in
    let f = λ (t : Timer). t.left in
    c.nearest.ensures (map f l) (search (rules, length-map, many_timers)) (λ o r h p. told f l unused_timer h (search rules))
