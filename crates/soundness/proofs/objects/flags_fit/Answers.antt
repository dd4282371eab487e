-- `objects::flags_fit` meets its contract: a word fits by its width, and the contract asks otherwise for a number above 0.
use mathlib.Core.Path.{◌≡◌}
use mathlib.Core.Bool.{true, and-true, not-not}
use lib.Dec.{leb}
use native.Mathlib.Omega.{arith}
use borrow.Author.Tests.{le-leb}
use Rattle.sequences.proofs.Positive.{positive_nonzero}
use Rattle.model.specs.Sound.{flags_in_range}
use Rattle.soundness.specs.Records.{flags_fit}
use Rattle.soundness.proofs.objects.flags_fit.Goals as goal

pub returns : goal.returns
unfolding flags_fit flags_in_range
returns c =
    let x = c.args.x in
    let w : leb x.word 65535 ≡ true = le-leb x.word 65535 (omega arith) in
    simp (w, positive_nonzero, not-not, and-true)
