-- The id is a mutex's, and the record is stored there.
use mathlib.Core.Path.{refl}
use Prim.Native.Nat.{◌<◌}
use borrow.Author.Tests.{leb-false}
use Rattle.model.specs.Calls.{answers}
use Rattle.model.specs.Effects.{create_mutex_effect}
use Rattle.kernel.proofs.Facts.{whole, not-due}
use Rattle.kernel.proofs.mutexes.create_mutex.Goals as goal
use Rattle.kernel.proofs.mutexes.create_mutex.Goals.{Start}

below : (s : Start) → s.args.q.id < 4
unfolding answers
below s = leb-false 4 s.args.q.id (not-due s.requires.1 0 refl)

pub with_mutex-requires : goal.with_mutex-requires
with_mutex-requires c = record { orderly_table = (whole c.requires.1).order.table; o_bound = below (goal.at.with_mutex-requires c).Start }

pub returns : goal.returns
unfolding create_mutex_effect
returns c = c.with_mutex.ensures
