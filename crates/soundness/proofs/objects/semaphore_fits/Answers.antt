-- `objects::semaphore_fits` meets its contract: the two tests that the fields' widths pass, and the two ways to ask for a number above 0.
use mathlib.Core.Path.{◌≡◌}
use mathlib.Core.Bool.{true, and_assoc, and-true, not-not}
use lib.Dec.{leb}
use native.Mathlib.Omega.{arith}
use borrow.Author.Tests.{le-leb}
use Rattle.sequences.proofs.Positive.{positive_nonzero}
use Rattle.model.specs.Sound.{semaphore_in_range}
use Rattle.soundness.specs.Records.{semaphore_fits}
use Rattle.soundness.proofs.objects.semaphore_fits.Goals as goal

pub returns : goal.returns
unfolding semaphore_fits semaphore_in_range
returns c =
    let x = c.args.x in
    let n : leb x.count 65535 ≡ true = le-leb x.count 65535 (omega arith) in
    let m : leb x.maximum 65535 ≡ true = le-leb x.maximum 65535 (omega arith) in
    simp (n, m, positive_nonzero, not-not, and_assoc, and-true)
