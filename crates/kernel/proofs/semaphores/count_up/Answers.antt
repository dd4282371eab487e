-- Below the maximum the record with one more is stored, else it stays, as the model's change has it.
use mathlib.Core.Path.{sym, ap}
use mathlib.Core.List.{List}
use borrow.Author.Tests.{lt-ltb, le-ltb}
use Rattle.sequences.proofs.Places.{alter-none}
use Rattle.model.specs.declared.tables.Semaphore.{Semaphore}
use Rattle.model.specs.State.{absent_semaphore}
use Rattle.model.specs.Parts.{with_semaphores, alter_semaphore}
use Rattle.model.specs.Effects.{one_more}
use Rattle.model.specs.Before.{view}
use Rattle.table.proofs.Views.{untouched}
use Rattle.table.proofs.Rewriting.{rewritten_semaphore}
use Rattle.kernel.proofs.semaphores.count_up.Goals as goal

pub returns-then-x : goal.returns-then-x
returns-then-x c =
    let a = c.args in
    rewritten_semaphore a.t c.with_semaphore.result a.o _ one_more (rw (lt-ltb _ _ c.if-x.true)) c.with_semaphore.ensures

pub returns-else-x : goal.returns-else-x
unfolding view
returns-else-x c =
    let t = c.args.t in
    let o = c.args.o in
    untouched (alter_semaphore o one_more) c.requires.orderly_table
    (λ rows.
    sym (ap (λ (l : List Semaphore). with_semaphores l (view t rows)) (alter-none one_more absent_semaphore o t.semaphores (rw (le-ltb _ _ c.if-x.false)))))
