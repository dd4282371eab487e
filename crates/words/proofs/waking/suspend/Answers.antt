-- What a wait writes moves nobody, so the thread leaves its ready list as it stood.
use mathlib.Core.Path.{refl}
use Rattle.model.specs.Parts.{with_wait}
use Rattle.model.specs.Words.{suspend}
use Rattle.words.proofs.Does.{rewritten_does, and_then}
use Rattle.words.proofs.Known.{ready_on, rewritten_ready}
use Rattle.words.proofs.waking.suspend.Goals as goal

pub leave-requires : goal.leave-requires
leave-requires c =
    let a = c.args in
    ready_on c.current-p.ensures (rewritten_ready a.i (with_wait a.limit 0 a.mask a.mode) c.set_wait.ensures (λ t. refl) c.requires)

pub returns : goal.returns
unfolding suspend
returns c =
    let a = c.args in
    and_then (rewritten_does a.i (with_wait a.limit 0 a.mask a.mode) c.requires.given.whole c.set_wait.ensures (λ t. refl))
    c.leave.ensures
