-- By the length: a wrong one leaves every byte, and into the right one the fresh table is written.
use mathlib.Core.Path.{◌≡◌, refl, ◌∙◌, ap₂}
use mathlib.Core.Bool.{true, false}
use lib.ListN.{length}
use borrow.Author.Tests.{eq-eqb, ne_eqb}
use Rattle.image.specs.Image.{image_of}
use Rattle.port.specs.Port.{right_length, fresh_after}
use Rattle.port.proofs.ordizgum_fresh.Goals as goal

pub returns-in_default : goal.returns-in_default
unfolding fresh_after
returns-in_default c =
    let s = c.args.image.now in
    let wrong : right_length s ≡ false = ne_eqb (length s) 920 c.in_default.ensures.cases in
    record { answer = rw wrong refl; image = rw wrong refl }

pub returns : goal.returns
unfolding fresh_after
returns c =
    let s = c.args.image.now in
    let fits : right_length s ≡ true = eq-eqb (length s) 920 c.in-Some.ensures.cases.long in
    record { answer = rw fits refl; image = rw fits (c.write.ensures ∙ ap₂ image_of c.fresh.ensures c.fresh_rows.ensures) }
