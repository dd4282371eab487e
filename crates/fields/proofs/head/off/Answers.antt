use mathlib.Core.Path.{refl}
use Rattle.model.specs.Layout.{view}
use Rattle.fields.proofs.head.off.Goals as goal

pub returns : goal.returns
unfolding view
returns c = refl
