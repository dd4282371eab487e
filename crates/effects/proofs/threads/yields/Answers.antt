-- The running thread stands on the list of its current priority, from which it becomes ready anew.
use mathlib.Core.Path.{◌≡◌, refl, ap}
use Prim.Native.Nat.{ℕ}
use Rattle.model.specs.Words.{become_ready}
use Rattle.model.specs.Calls.{answers}
use Rattle.model.specs.Effects.{yield_effect}
use Rattle.model.specs.Layout.{view}
use Rattle.theorems.proofs.Allowing.{not-due}
use Rattle.words.specs.Images.{Ready}
use Rattle.words.proofs.Does.{same_word}
use Rattle.words.proofs.Known.{ready_on}
use Rattle.words.proofs.Accepted.{running}
use Rattle.effects.proofs.threads.yields.Goals as goal
use Rattle.effects.proofs.threads.yields.Goals.{Start}

ready : (s : Start) {i : ℕ} → i ≡ (view s.args.image.now).chosen → Ready s.args.image.now i
unfolding answers
ready s e = running e s.requires.whole s.requires.allowed (not-due s.requires.allowed 1 refl)

pub current-p-requires : goal.current-p-requires
current-p-requires c = (ready (goal.at.current-p-requires c).Start c.chosen-i.ensures).given.thread

pub become_ready-requires : goal.become_ready-requires
become_ready-requires c =
    ready_on c.current-p.ensures (ready (goal.at.become_ready-requires c).Start c.chosen-i.ensures)

pub returns : goal.returns
unfolding yield_effect
returns c =
    let a = c.args in
    same_word c.become_ready.ensures (yield_effect a.q) (ap (λ (i : ℕ). become_ready i (view a.image.now)) c.chosen-i.ensures)
