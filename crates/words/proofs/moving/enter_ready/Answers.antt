-- The list of its current priority is one of the ready lists, as every thread's is.
use native.Mathlib.Omega.{arith}
use Rattle.words.proofs.Lists.{enters}
use Rattle.words.proofs.Moved.{entered_ready}
use Rattle.words.proofs.moving.enter_ready.Goals as goal

pub enter_tail-requires : goal.enter_tail-requires
enter_tail-requires c =
    let w = c.requires.given.whole in record { orderly = w.links; enters = enters c.requires (omega (arith, c.current-p.ensures, w.placed.priorities c.args.i)) }

pub returns : goal.returns
returns c =
    entered_ready c.requires c.current-p.ensures c.enter_tail.ensures
