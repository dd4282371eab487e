-- Eight rows of zeros are the model's empty ready lists laid out, by computation.
use mathlib.Core.Path.{refl}
use Rattle.model.specs.State.{fresh}
use Rattle.model.specs.Before.{fresh_rows, lay_rows}
use Rattle.table.proofs.fresh.fresh_rows.Goals as goal

pub returns : goal.returns
unfolding fresh_rows lay_rows fresh
returns c = refl
