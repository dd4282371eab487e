-- `threads::may_exceed` meets its contract: where the current priority is the base, both sides are true.
use mathlib.Core.Path.{sym}
use mathlib.Core.Bool.{or-true}
use borrow.Author.Tests.{eq-eqb}
use Rattle.table.specs.Owners.{owns_one_of}
use Rattle.soundness.proofs.threads.may_exceed.Goals as goal

pub returns-then-t : goal.returns-then-t
returns-then-t c =
    let a = c.args in
    rw (eq-eqb a.t.current a.t.base c.if-t.true) (sym (or-true (owns_one_of a.mutexes a.i)))

pub returns-else-t : goal.returns-else-t
returns-else-t c = rw c.owns_one_of.ensures
