-- The running thread becomes ready anew.
use mathlib.Core.Path.{refl}
use Rattle.model.specs.Calls.{answers}
use Rattle.model.specs.Effects.{yield_effect}
use Rattle.model.specs.Before.{view}
use Rattle.table.proofs.Stored.{sound-given}
use Rattle.table.proofs.Views.{same_word}
use Rattle.kernel.proofs.Facts.{running_below, not-due}
use Rattle.kernel.proofs.threads.yields.Goals as goal

pub become_ready-requires : goal.become_ready-requires
unfolding answers
become_ready-requires c = sound-given c.requires.sound (running_below c.requires (not-due c.requires 1 refl))

pub returns : goal.returns
unfolding yield_effect view
returns c = same_word (yield_effect c.args.q) c.become_ready.ensures refl
