use mathlib.Core.Path.{refl}
use Rattle.model.specs.Layout.{view}
use Rattle.fields.proofs.head.chosen.Goals as goal

pub returns : goal.returns
unfolding view
returns c = refl
