-- For who owns a mutex the test finds the higher of two numbers; for others it fails.
use mathlib.Core.Path.{◌≡◌, refl, ◌∙◌}
use mathlib.Core.Bool.{Bool, true, false, cond, ◌&&◌, false≢true}
use Prim.Native.Nat.{ℕ, max}
use native.Mathlib.Omega.{arith}
use borrow.Author.Tests.{ltb-true, ltb-false}
use lib.Dec.{ltb}
use Rattle.model.specs.declared.tables.Thread.{Thread}
use Rattle.model.specs.declared.tables.Table.{Table}
use Rattle.model.specs.Effects.{new_current}
use Rattle.model.specs.Before.{Rows, view, thread_at}
use Rattle.table.specs.Owners.{owns_one_of}
use Rattle.table.proofs.ByArray.{owns_any-one-of}
use Rattle.kernel.proofs.threads.new_current.Goals as goal

higher : (owner : Bool) (base current : ℕ) → owner && ltb base current ≡ true → current ≡ cond owner (max base current) base
higher true base current h = omega (arith, ltb-true base current h)
higher false base current h = absurd (false≢true h)

not-higher : (owner : Bool) (base current : ℕ) → owner && ltb base current ≡ false → base ≡ cond owner (max base current) base
not-higher true base current h = omega (arith, ltb-false base current h)
not-higher false base current h = refl

-- what the code has read is what the model asks
as_read : (t : Table) (rows : Rows) (i base : ℕ) {owner : Bool} {x : Thread} → owner ≡ owns_one_of t.mutexes i → x ≡ thread_at t.threads i
    → cond owner (max base x.current) base ≡ new_current i base (view t rows)
unfolding view
as_read t rows i base e f = rw (e, f, owns_any-one-of i (view t rows))

pub returns-then-owns_one_of-base : goal.returns-then-owns_one_of-base
returns-then-owns_one_of-base c rows =
    let a = c.args in
    let x = c.thread-x in
    let owner = c.owns_one_of in
    higher owner.result a.base x.result.current c.if-owns_one_of-base.true ∙ as_read a.t rows a.i a.base owner.ensures x.ensures

pub returns-else-owns_one_of-base : goal.returns-else-owns_one_of-base
returns-else-owns_one_of-base c rows =
    let a = c.args in
    let x = c.thread-x in
    let owner = c.owns_one_of in
    not-higher owner.result a.base x.result.current c.if-owns_one_of-base.false ∙ as_read a.t rows a.i a.base owner.ensures x.ensures
