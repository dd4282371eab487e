-- The running thread starts to sleep.
use mathlib.Core.Path.{refl}
use Rattle.model.specs.Calls.{answers}
use Rattle.model.specs.Effects.{sleep_effect}
use Rattle.model.specs.Before.{view}
use Rattle.table.proofs.Stored.{sound-given}
use Rattle.table.proofs.Views.{same_word}
use Rattle.kernel.proofs.Facts.{running_below, not-due}
use Rattle.kernel.proofs.threads.sleep.Goals as goal

pub start_to_sleep-requires : goal.start_to_sleep-requires
unfolding answers
start_to_sleep-requires c = sound-given c.requires.sound (running_below c.requires (not-due c.requires 1 refl))

pub returns : goal.returns
unfolding sleep_effect view
returns c = same_word (sleep_effect c.args.q) c.start_to_sleep.ensures refl
