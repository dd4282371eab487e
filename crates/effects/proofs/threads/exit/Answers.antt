-- The running thread leaves its ready list, and once it is off all lists its record becomes that of one that isn't there.
use mathlib.Core.Path.{◌≡◌, refl, ap, ◌∙◌}
use Prim.Native.Nat.{ℕ, ◌<◌}
use native.Mathlib.Omega.{arith}
use Rattle.model.specs.declared.tables.Thread.{Thread}
use Rattle.model.specs.State.{absent_thread}
use Rattle.model.specs.Parts.{alter_thread}
use Rattle.model.specs.Words.{leave}
use Rattle.model.specs.Calls.{answers}
use Rattle.model.specs.Effects.{exit_effect}
use Rattle.model.specs.Layout.{view}
use Rattle.theorems.proofs.Allowing.{not-due}
use Rattle.words.specs.Images.{Ready}
use Rattle.words.proofs.Does.{and_then, same_word, given-still, left-off}
use Rattle.words.proofs.Known.{ready_on}
use Rattle.words.proofs.Accepted.{running}
use Rattle.effects.proofs.Standing.{stored_does}
use Rattle.effects.proofs.threads.exit.Goals as goal
use Rattle.effects.proofs.threads.exit.Goals.{Start}

ready : (s : Start) {i : ℕ} → i ≡ (view s.args.image.now).chosen → Ready s.args.image.now i
unfolding answers
ready s e = running e s.requires.whole s.requires.allowed (not-due s.requires.allowed 1 refl)

pub current-p-requires : goal.current-p-requires
current-p-requires c = (ready (goal.at.current-p-requires c).Start c.chosen-i.ensures).given.thread

pub leave-requires : goal.leave-requires
leave-requires c =
    ready_on c.current-p.ensures (ready (goal.at.leave-requires c).Start c.chosen-i.ensures)

pub store-requires : goal.store-requires
store-requires c =
    (given-still c.leave.ensures (ready (goal.at.store-requires c).Start c.chosen-i.ensures).given).thread

pub returns : goal.returns
unfolding exit_effect
returns c =
    let v = view c.args.image.now in
    let i = c.chosen-i.result in
    let below : c.absent_thread.result.current < 8 = rw c.absent_thread.ensures (omega arith) in
    let off = left-off (ready (goal.at.returns c).Start c.chosen-i.ensures).given c.leave.ensures in
    same_word (and_then c.leave.ensures (stored_does c.absent_thread.result off below c.store.ensures)) (exit_effect c.args.q)
    (ap (λ (t : Thread). alter_thread i (λ _. t) (leave i v)) c.absent_thread.ensures
    ∙ ap (λ (k : ℕ). alter_thread k (λ _. absent_thread) (leave k v)) c.chosen-i.ensures)
