-- Who has left is off all lists.
use Rattle.model.specs.Words.{become_ready}
use Rattle.words.proofs.Does.{and_then, left-off}
use Rattle.words.proofs.waking.become_ready.Goals as goal

pub enter_ready-requires : goal.enter_ready-requires
enter_ready-requires c = left-off c.requires.given c.leave.ensures

pub returns : goal.returns
unfolding become_ready
returns c = and_then c.leave.ensures c.enter_ready.ensures
