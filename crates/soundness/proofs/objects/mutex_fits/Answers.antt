-- `objects::mutex_fits` meets its contract: a depth fits by its width, and the contract asks otherwise for a number above 0.
use mathlib.Core.Path.{◌≡◌}
use mathlib.Core.Bool.{true, and_assoc, and-true, not-not}
use lib.Dec.{leb}
use native.Mathlib.Omega.{arith}
use borrow.Author.Tests.{le-leb}
use Rattle.sequences.proofs.Positive.{positive_nonzero}
use Rattle.model.specs.Sound.{mutex_in_range}
use Rattle.soundness.specs.Records.{mutex_fits}
use Rattle.soundness.proofs.objects.mutex_fits.Goals as goal

pub returns : goal.returns
unfolding mutex_fits mutex_in_range
returns c =
    let x = c.args.x in
    let d : leb x.depth 255 ≡ true = le-leb x.depth 255 (omega arith) in
    simp (d, positive_nonzero, not-not, and_assoc, and-true)
