-- `threads::thread_in_range` meets its contract: the definition's other tests are true by the fields' types.
use mathlib.Core.Bool.{and_assoc, and-true}
use native.Mathlib.Omega.{arith}
use borrow.Author.Tests.{le-leb}
use Rattle.model.specs.Sound.{thread_in_range}
use Rattle.soundness.proofs.threads.thread_in_range.Goals as goal

pub returns : goal.returns
unfolding thread_in_range
returns c =
    let t = c.args.t in
    simp (
      le-leb t.quantum 65535 (omega arith),
      le-leb t.left 65535 (omega arith),
      le-leb t.limit 4294967295 (omega arith),
      le-leb t.mask 65535 (omega arith),
      le-leb t.delivered 65535 (omega arith),
      and_assoc,
      and-true,
    )
