-- Bytes of another length are no image.
use Rattle.std.proofs.Common.{◌∙◌}
use Rattle.in_place.proofs.Lengths.{next-other}
use Rattle.in_place.proofs.next_wake_up.Goals as goal

pub returns-in-None : goal.returns-in-None
returns-in-None c = c.unsound.ensures ∙ next-other c.args.image.now c.in-None.ensures.cases
