-- What the end of a wait writes moves nobody, so the thread can become ready as it stood.
use mathlib.Core.Path.{refl}
use Rattle.model.specs.Parts.{with_wait}
use Rattle.model.specs.Words.{wake}
use Rattle.words.proofs.Does.{rewritten_does, and_then}
use Rattle.words.proofs.Known.{rewritten_on}
use Rattle.words.proofs.waking.wake.Goals as goal

pub become_ready-requires : goal.become_ready-requires
become_ready-requires c =
    let a = c.args in
    let w = c.set_wait.ensures in
    rewritten_on a.i (with_wait 0 a.res 0 0) w (λ t. refl) c.requires

pub returns : goal.returns
unfolding wake
returns c =
    let a = c.args in
    and_then (rewritten_does a.i (with_wait 0 a.res 0 0) c.requires.given.whole c.set_wait.ensures (λ t. refl))
    c.become_ready.ensures
