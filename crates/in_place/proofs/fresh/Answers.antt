-- By the length: a wrong one leaves every byte, and into the right one the fresh table is written.
use Rattle.std.proofs.Common.{◌≡◌, true, false, eqb, length, refl, eq-eqb, ne_eqb}
use Rattle.model.specs.Layout.{image_length}
use Rattle.in_place.specs.Kept.{fresh_kept}
use Rattle.in_place.proofs.fresh.Goals as goal

pub returns-in-Some-clause-image : goal.returns-in-Some-clause-image
unfolding fresh_kept
returns-in-Some-clause-image c =
    let b = c.args.image.now in
    let fits : eqb (length b) image_length ≡ true = eq-eqb (length b) image_length (c.in-Some.ensures.variant.0 refl) in
    rw fits c.fresh.ensures

pub returns-in-None-clause-image : goal.returns-in-None-clause-image
unfolding fresh_kept
returns-in-None-clause-image c =
    let b = c.args.image.now in
    let wrong : eqb (length b) image_length ≡ false = ne_eqb (length b) image_length c.in-None.ensures.cases in
    rw wrong refl
