-- A thread that is there becomes ready.
use mathlib.Core.Path.{refl}
use Prim.Native.Nat.{◌<◌}
use native.Mathlib.Omega.{arith}
use Rattle.model.specs.Calls.{answers}
use Rattle.model.specs.Effects.{start_effect}
use Rattle.table.proofs.Stored.{sound-given}
use Rattle.kernel.proofs.Facts.{thread-named}
use Rattle.kernel.proofs.threads.start.Goals as goal
use Rattle.kernel.proofs.threads.start.Goals.{Start}

below : (s : Start) → s.args.q.id < 16
unfolding answers
below s = thread-named s.requires refl

pub overflow_cast-i : goal.overflow_cast-i
overflow_cast-i c = omega (arith, below (goal.at.overflow_cast-i c).Start)

pub become_ready-requires : goal.become_ready-requires
become_ready-requires c = sound-given c.requires.sound (below (goal.at.become_ready-requires c).Start)

pub returns : goal.returns
unfolding start_effect
returns c = c.become_ready.ensures
