-- The id is a mutex's, and the record is stored there.
use mathlib.Core.Path.{refl}
use Prim.Native.Nat.{◌<◌}
use borrow.Author.Tests.{leb-false}
use Rattle.model.specs.Calls.{answers}
use Rattle.model.specs.Effects.{create_mutex_effect}
use Rattle.theorems.proofs.Allowing.{not-due}
use Rattle.words.proofs.Accepted.{unmoved_does}
use Rattle.serving.proofs.mutexes.create_mutex.Goals as goal
use Rattle.serving.proofs.mutexes.create_mutex.Goals.{Start}

below : (s : Start) → s.args.q.id < 4
unfolding answers
below s = leb-false 4 s.args.q.id (not-due s.requires.allowed 0 refl)

pub store-requires : goal.store-requires
store-requires c = below (goal.at.store-requires c).Start

pub returns : goal.returns
unfolding create_mutex_effect
returns c =
    unmoved_does c.requires.whole c.store.ensures refl refl refl
