use mathlib.Core.Path.{◌∙◌}
use Rattle.sequences.proofs.Numbers.{four_number}
use Rattle.model.specs.Layout.{view}
use Rattle.fields.proofs.head.clock.Goals as goal

pub returns : goal.returns
unfolding view
returns c = c.u32_at.ensures ∙ four_number 0 c.args.image.now
