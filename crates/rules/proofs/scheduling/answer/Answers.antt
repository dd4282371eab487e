-- Each number's answer is that of its call.
use native.Mathlib.Omega.{arith}
use Rattle.model.specs.Calls.{calls, numbered}
use Rattle.model.specs.Kernel.{judge}
use Rattle.rules.proofs.ByNumber.{by_number}
use Rattle.rules.proofs.scheduling.answer.Goals as goal

pub returns-then-q : goal.returns-then-q
unfolding judge numbered calls
returns-then-q c s = by_number c.args.q s 21 c.if-q.true (c.scheduling.ensures s)

pub returns-else-q : goal.returns-else-q
unfolding judge numbered calls
returns-else-q c s = by_number c.args.q s 22 (omega (arith, c.requires, c.if-q.false)) (c.advance.ensures s)
