-- With no count the thread that runs waits in the semaphore's list; else one is taken, and it has its result.
use mathlib.Core.Path.{refl}
use Prim.Native.Nat.{◌+◌, ◌-◌, ◌<◌}
use native.Mathlib.Omega.{arith}
use borrow.Author.Tests.{eq-eqb, ne_eqb}
use Rattle.model.specs.declared.requests.Request.{Request}
use Rattle.model.specs.declared.tables.Semaphore.{Semaphore}
use Rattle.model.specs.declared.tables.Table.{Table}
use Rattle.model.specs.Parts.{with_count}
use Rattle.model.specs.Words.{start_to_wait}
use Rattle.model.specs.Calls.{answers, pend}
use Rattle.model.specs.Effects.{pend_effect}
use Rattle.model.specs.Before as layout
use Rattle.model.specs.Before.{view}
use Rattle.table.proofs.Views.{then, does, same_word}
use Rattle.table.proofs.Rewriting.{rewritten_semaphore}
use Rattle.kernel.specs.Allowed.{Allowed}
use Rattle.kernel.proofs.Facts.{whole, running_below, semaphore-named, not-due}
use Rattle.kernel.proofs.semaphores.pend.Goals as goal

module _ {q : Request} {t : Table} {rows : layout.Rows} (a : Allowed pend q t rows) where
  below : q.id < 8
  unfolding answers
  below = semaphore-named a refl

  list-below : 2 + q.id < 18
  list-below = omega (arith, below)

  runs-below : t.chosen < 16
  unfolding answers
  runs-below = running_below a (not-due a 2 refl)

pub bounds-t-o : goal.bounds-t-o
bounds-t-o c = below c.requires

pub start_to_wait-requires : goal.start_to_wait-requires
start_to_wait-requires c = record { given = record { whole = whole c.requires; thread = runs-below c.requires }; j_bound = list-below c.requires }

pub with_semaphore-u-requires : goal.with_semaphore-u-requires
with_semaphore-u-requires c = record { orderly_table = (whole c.requires).order.table; o_bound = below c.requires }

pub with_result-requires : goal.with_result-requires
with_result-requires c = record { orderly_table = c.with_semaphore-u.ensures.order; i_bound = runs-below c.requires }

pub returns-then-x-eq0 : goal.returns-then-x-eq0
unfolding pend_effect view
returns-then-x-eq0 c =
    let q = c.args.q in
    same_word {f = start_to_wait (2 + q.id) c.args.t.chosen q.a 0 0} (pend_effect q) c.start_to_wait.ensures
    (rw (eq-eqb _ _ c.if-x-eq0.true))

pub returns-else-x-eq0 : goal.returns-else-x-eq0
unfolding pend_effect view
returns-else-x-eq0 c =
    let a = c.args in
    let u = c.with_semaphore-u in
    let taken = rewritten_semaphore a.t u.result a.q.id _ (λ (x : Semaphore). with_count (x.count - 1) x) refl u.ensures in
    same_word (pend_effect a.q) (does a.rows.now (whole c.requires).order (then taken c.with_result.ensures))
    (rw (ne_eqb _ _ c.if-x-eq0.false))
