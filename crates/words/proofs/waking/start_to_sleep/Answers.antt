-- Who was suspended is off all lists.
use native.Mathlib.Omega.{arith}
use Rattle.model.specs.Words.{start_to_sleep}
use Rattle.words.proofs.Does.{and_then, suspended_off}
use Rattle.words.proofs.waking.start_to_sleep.Goals as goal

pub enter_tail-requires : goal.enter_tail-requires
enter_tail-requires c =
    record { off = suspended_off c.args.span 0 0 c.requires.given c.suspend.ensures; list = omega arith }

pub returns : goal.returns
unfolding start_to_sleep
returns c = and_then c.suspend.ensures c.enter_tail.ensures
