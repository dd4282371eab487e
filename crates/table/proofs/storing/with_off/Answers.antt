-- No list and no array is touched.
use mathlib.Core.Path.{refl}
use Rattle.model.specs.Before.{view}
use Rattle.table.proofs.storing.with_off.Goals as goal

pub returns : goal.returns
unfolding view
returns c = record { order = c.requires; lengths = refl; view = λ rows. refl }
