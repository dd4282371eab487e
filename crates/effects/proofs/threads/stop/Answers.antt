-- A ready thread leaves the list of its current priority; then it is off all lists.
use mathlib.Core.Path.{refl}
use native.Mathlib.Omega.{arith}
use borrow.Author.Tests.{not-false}
use Rattle.model.specs.Calls.{answers}
use Rattle.model.specs.Effects.{stop_effect}
use Rattle.theorems.proofs.Allowing.{not-due, thread-named}
use Rattle.words.specs.Images.{Ready}
use Rattle.words.proofs.Does.{and_then, left-off}
use Rattle.words.proofs.Known.{ready_on}
use Rattle.effects.proofs.threads.stop.Goals as goal
use Rattle.effects.proofs.threads.stop.Goals.{Start}

ready : (s : Start) → Ready s.args.image.now s.args.q.id
unfolding answers
ready s =
    record {
      given = record { whole = s.requires.whole; thread = thread-named s.requires.allowed refl };
      ready = not-false _ (not-due s.requires.allowed 3 refl);
    }

pub current-ready-requires : goal.current-ready-requires
current-ready-requires c = (ready (goal.at.current-ready-requires c).Start).given.thread

pub leave-requires : goal.leave-requires
leave-requires c = ready_on c.current-ready.ensures (ready (goal.at.leave-requires c).Start)

pub enter_tail-requires : goal.enter_tail-requires
enter_tail-requires c =
    record { off = left-off (ready (goal.at.enter_tail-requires c).Start).given c.leave.ensures; list = omega arith }

pub returns : goal.returns
unfolding stop_effect
returns c =
    and_then c.leave.ensures c.enter_tail.ensures
