-- Who stands on no list may enter any; the links' part is put back as the links of the lists with the thread.
use native.Mathlib.Omega.{arith}
use Rattle.words.proofs.Lists.{enters}
use Rattle.words.proofs.Moved.{entered_tail}
use Rattle.words.proofs.moving.enter_tail.Goals as goal

pub enter_tail-requires : goal.enter_tail-requires
enter_tail-requires c =
    let o = c.requires in record { orderly = o.off.given.whole.links; enters = enters o.off (omega (arith, o.list)) }

pub returns : goal.returns
returns c = entered_tail c.requires c.enter_tail.ensures
