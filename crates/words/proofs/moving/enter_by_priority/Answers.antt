-- The walk came to the place of the rank; behind the cell there the thread is tied in.
use native.Mathlib.Omega.{arith}
use Rattle.layout.proofs.Viewed.{list_linked}
use Rattle.words.proofs.Lists.{enters}
use Rattle.words.proofs.Moved.{entered_behind}
use Rattle.words.proofs.moving.enter_by_priority.Goals as goal

pub enter_behind-requires : goal.enter_behind-requires
enter_behind-requires c =
    let o = c.requires.off in
    let spot = c.rank-spot in
    let behind = rw (list_linked c.args.image.now c.args.j) at spot.ensures.behind in record { orderly = o.given.whole.links; enters = enters o (omega (arith, c.requires.list)); by_index = (spot.result.place, behind) }

pub returns : goal.returns
returns c =
    entered_behind c.requires c.rank-spot.ensures c.enter_behind.ensures
