-- The higher of two priorities is the other's where that is higher; else the thread's own, and to take that changes nothing.
use mathlib.Core.Path.{◌≡◌, ap}
use Prim.Native.Nat.{ℕ, max}
use native.Mathlib.Omega.{arith}
use borrow.Author.Tests.{eq-eqb}
use Rattle.model.specs.declared.tables.Thread.{Thread}
use Rattle.model.specs.Words.{take_priority}
use Rattle.model.specs.Effects.{raise}
use Rattle.model.specs.Before.{view, thread_at}
use Rattle.table.proofs.Views.{same_word}
use Rattle.kernel.proofs.mutexes.raise.Goals as goal
use Rattle.kernel.proofs.mutexes.raise.Goals.{After-thread-y}

-- the priorities compared are the model's
own_read : (b : After-thread-y) → b.thread-x.result.current ≡ (thread_at b.args.t.threads b.args.i).current
own_read b = ap (λ (x : Thread). x.current) b.thread-x.ensures

other-read : (b : After-thread-y) → b.thread-y.result.current ≡ (thread_at b.args.t.threads b.args.from).current
other-read b = ap (λ (x : Thread). x.current) b.thread-y.ensures

pub take_priority-requires : goal.take_priority-requires
unfolding view
take_priority-requires c = record { given = c.requires.given; p_bound = rw c.thread-y.ensures (c.requires.given.whole.placed.priorities c.args.from) }

pub returns-then-x-y : goal.returns-then-x-y
unfolding raise view
returns-then-x-y c =
    let i = c.args.i in
    let v = view c.args.t c.args.rows.now in
    let own = (thread_at c.args.t.threads i).current in
    let other = (thread_at c.args.t.threads c.args.from).current in
    let e : c.thread-y.result.current ≡ max own other = omega (arith, own_read (goal.at.returns-then-x-y c).After-thread-y, other-read (goal.at.returns-then-x-y c).After-thread-y, c.if-x-y.true) in
    same_word (raise i c.args.from) c.take_priority.ensures (ap (λ (p : ℕ). take_priority i p v) e)

pub returns-else-x-y : goal.returns-else-x-y
unfolding raise take_priority view
returns-else-x-y c =
    let own = (thread_at c.args.t.threads c.args.i).current in
    let other = (thread_at c.args.t.threads c.args.from).current in
    let e : own ≡ max own other = omega (arith, own_read (goal.at.returns-else-x-y c).After-thread-y, other-read (goal.at.returns-else-x-y c).After-thread-y, c.if-x-y.false) in
    record { order = c.requires.given.whole.order; view = rw (eq-eqb own (max own other) e) }
