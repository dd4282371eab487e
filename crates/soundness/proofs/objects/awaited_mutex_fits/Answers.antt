-- `objects::awaited_mutex_fits` meets its contract. The owner's record is read at owner % 16, which is the owner where it is in range; where
-- it isn't, no record makes the mutex fit.
use mathlib.Core.Path.{◌∙◌, ap}
use Prim.Native.Nat.{◌%◌}
use native.Mathlib.Omega.{arith}
use Rattle.sequences.specs.Lists.{among}
use Rattle.model.specs.Before.{ids_of, thread_at}
use Rattle.soundness.specs.Records.{mutex_fits}
use Rattle.soundness.proofs.OwnerLaws.{mutex_fits-in_range}
use Rattle.soundness.proofs.objects.awaited_mutex_fits.Goals as goal

pub returns : goal.returns
returns c =
    let a = c.args in
    let read = thread_at a.threads.now (a.x.owner % 16) in
    c.mutex_fits.ensures
    ∙ ap (mutex_fits a.x read a.waiting.length) c.holds_id-own_waiter.ensures
    ∙ mutex_fits-in_range a.x read (thread_at a.threads.now a.x.owner) a.waiting.length (among a.x.owner (ids_of a.waiting)) (λ h. ap (thread_at a.threads.now) (omega arith))
