-- `timers::timer_fits` meets its contract: the definition's other tests are true by the fields' types.
use mathlib.Core.Bool.{and_assoc, and-true}
use native.Mathlib.Omega.{arith}
use borrow.Author.Tests.{le-leb}
use Rattle.model.specs.Sound.{timer_in_range}
use Rattle.soundness.specs.Records.{timer_fits}
use Rattle.soundness.proofs.timers.timer_fits.Goals as goal

pub returns : goal.returns
unfolding timer_fits timer_in_range
returns c =
    let t = c.args.t in
    rw (
      c.zero_timer-zero.ensures,
      c.action_in_range-in_range.ensures,
      le-leb t.period 4294967295 (omega arith),
      le-leb t.left 4294967295 (omega arith),
      le-leb t.count 4294967295 (omega arith),
    )
    (simp (and_assoc, and-true))
