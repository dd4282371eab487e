-- The word that was read is the model's.
use Rattle.model.specs.Effects.{set_flags}
use Rattle.model.specs.Before.{view}
use Rattle.kernel.proofs.flags.set_flags.Goals as goal

pub returns : goal.returns
unfolding set_flags view
returns c = record { order = c.change_word.ensures.order; view = c.change_word.ensures.view }
