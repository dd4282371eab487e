-- Who was suspended is off all lists.
use Rattle.model.specs.Words.{start_to_wait}
use Rattle.words.proofs.Does.{and_then, suspended_off}
use Rattle.words.proofs.waking.start_to_wait.Goals as goal

pub enter_by_priority-requires : goal.enter_by_priority-requires
enter_by_priority-requires c =
    let a = c.args in
    record { off = suspended_off a.limit a.mask a.mode c.requires.ready.given c.suspend.ensures; list = c.requires.j_bound }

pub returns : goal.returns
unfolding start_to_wait
returns c = and_then c.suspend.ensures c.enter_by_priority.ensures
