-- The running thread, which is ready, starts to sleep.
use mathlib.Core.Path.{refl, ap}
use Prim.Native.Nat.{ℕ}
use Rattle.model.specs.Words.{start_to_sleep}
use Rattle.model.specs.Calls.{answers}
use Rattle.model.specs.Effects.{sleep_effect}
use Rattle.model.specs.Layout.{view}
use Rattle.theorems.proofs.Allowing.{not-due}
use Rattle.words.proofs.Does.{same_word}
use Rattle.words.proofs.Accepted.{running}
use Rattle.effects.proofs.threads.sleep.Goals as goal

pub start_to_sleep-requires : goal.start_to_sleep-requires
unfolding answers
start_to_sleep-requires c =
    running c.chosen-i.ensures c.requires.whole c.requires.allowed (not-due c.requires.allowed 1 refl)

pub returns : goal.returns
unfolding sleep_effect
returns c =
    let a = c.args in
    same_word c.start_to_sleep.ensures (sleep_effect a.q)
    (ap (λ (i : ℕ). start_to_sleep i a.q.a (view a.image.now)) c.chosen-i.ensures)
