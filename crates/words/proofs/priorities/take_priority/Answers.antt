-- No change, no move: else the thread takes the priority and moves.
use borrow.Author.Tests.{eq-eqb, ne_eqb}
use Rattle.model.specs.Words.{take_priority}
use Rattle.words.proofs.Does.{same_word}
use Rattle.words.proofs.priorities.take_priority.Goals as goal

pub returns-then-current-p : goal.returns-then-current-p
unfolding take_priority
returns-then-current-p c =
    same_word c.retake.ensures (take_priority c.args.i c.args.p)
    (rw (← c.current.ensures, ne_eqb _ _ c.if-current-p.true))

pub returns-else-current-p : goal.returns-else-current-p
unfolding take_priority
returns-else-current-p c =
    record { whole = c.requires.given.whole; view = rw (← c.current.ensures, eq-eqb _ _ c.if-current-p.false) }
