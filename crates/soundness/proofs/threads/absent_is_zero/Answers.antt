-- `threads::absent_is_zero` meets its contract: for a thread that is there nothing is asked.
use borrow.Author.Tests.{eq-eqb, ne_eqb}
use Rattle.soundness.proofs.threads.absent_is_zero.Goals as goal

pub returns-then-t-eq0 : goal.returns-then-t-eq0
returns-then-t-eq0 c = rw (c.zero_thread.ensures, eq-eqb c.args.t.created 0 c.if-t-eq0.true)

pub returns-else-t-eq0 : goal.returns-else-t-eq0
returns-else-t-eq0 c = rw (ne_eqb c.args.t.created 0 c.if-t-eq0.false)
