-- `lists_fit` meets its contract: two passes over the lists as they are stored, with the highest ids lent to both.
use mathlib.Core.Path.{refl}
use Rattle.soundness.specs.Lists.{tops}
use Rattle.soundness.specs.Whole.{lists_fit}
use Rattle.soundness.proofs.lists_fit.Goals as goal

pub ready_lists_fit-ready-requires : goal.ready_lists_fit-ready-requires
unfolding tops
ready_lists_fit-ready-requires c = refl

pub wait_lists_fit-others-requires : goal.wait_lists_fit-others-requires
unfolding tops
wait_lists_fit-others-requires c = refl

pub returns : goal.returns
unfolding lists_fit
returns c = rw (c.ready_lists_fit-ready.ensures, c.wait_lists_fit-others.ensures)
