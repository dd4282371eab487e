-- The thread stands on the stopped list, from which it becomes ready.
use mathlib.Core.Path.{refl}
use native.Mathlib.Omega.{arith}
use borrow.Author.Tests.{not-false}
use Rattle.sequences.proofs.Parts.{among-counted}
use Rattle.model.specs.State.{stopped_list}
use Rattle.model.specs.Parts.{list}
use Rattle.model.specs.Calls.{answers}
use Rattle.model.specs.Effects.{start_effect}
use Rattle.model.specs.Layout.{view}
use Rattle.theorems.proofs.Allowing.{not-due, thread-named}
use Rattle.words.specs.Images.{On}
use Rattle.words.proofs.Known.{listed-on}
use Rattle.effects.proofs.threads.start.Goals as goal
use Rattle.effects.proofs.threads.start.Goals.{Start}

stopped : (s : Start) → On s.args.image.now 9 s.args.q.id
unfolding answers
stopped s =
    listed-on {j = 1} (record { whole = s.requires.whole; thread = thread-named s.requires.allowed refl }) (omega arith)
    (among-counted s.args.q.id (list stopped_list (view s.args.image.now)) (not-false _ (not-due s.requires.allowed 2 refl)))

pub become_ready-requires : goal.become_ready-requires
become_ready-requires c = stopped (goal.at.become_ready-requires c).Start

pub returns : goal.returns
unfolding start_effect
returns c = c.become_ready.ensures
