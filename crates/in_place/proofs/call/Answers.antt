-- Bytes of another length are no image.
use Rattle.std.proofs.Common.{◌∙◌}
use Rattle.in_place.proofs.Lengths.{told-other, kept-other}
use Rattle.in_place.proofs.call.Goals as goal

pub returns-in-None : goal.returns-in-None
returns-in-None c =
    let b = c.args.image.now in
    let q = c.args.q in
    record { report = c.unsound.ensures ∙ told-other b c.in-None.ensures.cases q; image = kept-other b c.in-None.ensures.cases q }
