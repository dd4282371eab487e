-- Nothing is left to run, which moves nobody.
use mathlib.Core.Path.{refl}
use Prim.Native.Nat.{◌<◌}
use borrow.Author.Tests.{leb-false}
use Rattle.model.specs.Calls.{answers}
use Rattle.model.specs.Effects.{stop_timer_effect}
use Rattle.theorems.proofs.Allowing.{not-due}
use Rattle.words.proofs.Accepted.{unmoved_does}
use Rattle.effects.proofs.timers.stop_timer.Goals as goal
use Rattle.effects.proofs.timers.stop_timer.Goals.{Start}

below : (s : Start) → s.args.q.id < 8
unfolding answers
below s = leb-false 8 s.args.q.id (not-due s.requires.allowed 0 refl)

pub set_left-requires : goal.set_left-requires
set_left-requires c = below (goal.at.set_left-requires c).Start

pub returns : goal.returns
unfolding stop_timer_effect
returns c =
    unmoved_does c.requires.whole c.set_left.ensures refl refl refl
