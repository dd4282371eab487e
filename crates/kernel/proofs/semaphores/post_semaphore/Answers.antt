-- The stored list and the model's agree on whether anybody waits, and on who is the first.
use mathlib.Core.Path.{sym, ap}
use mathlib.Core.List.{List}
use Prim.Native.Nat.{ℕ, ◌+◌, ◌<◌}
use native.Mathlib.Omega.{arith}
use Rattle.model.specs.Effects.{post_to, post_semaphore}
use Rattle.model.specs.Before.{view, list_at}
use Rattle.table.proofs.Views.{does, same_word}
use Rattle.table.proofs.StoredLists.{listed_below, none-listed, first-listed}
use Rattle.kernel.proofs.semaphores.post_semaphore.Goals as goal
use Rattle.kernel.proofs.semaphores.post_semaphore.Goals.{Else-l-eq0}

list-below : (o : ℕ) → o < 8 → 2 + o < 18
list-below o h = omega arith

somebody : (c : Else-l-eq0) → let a = c.args in 0 < (list_at a.t.waits (2 + a.o)).length
somebody c = let n = c.if-l-eq0.false in omega arith

pub wake-requires : goal.wake-requires
wake-requires c =
    let o = c.args.o in
    record { whole = c.requires.whole; thread = listed_below c.requires.whole (2 + o) (list-below o c.requires.o_bound) 0 (somebody (goal.at.wake-requires c).Else-l-eq0) }

pub returns-then-l-eq0 : goal.returns-then-l-eq0
unfolding post_semaphore post_to
returns-then-l-eq0 c =
    let a = c.args in
    let v = view a.t a.rows.now in
    same_word (post_semaphore a.o) (does a.rows.now c.requires.whole.order c.count_up.ensures)
    (sym (ap (λ (l : List ℕ). post_to a.o l v) (none-listed c.requires.whole (2 + a.o) (list-below a.o c.requires.o_bound) c.if-l-eq0.true)))

pub returns-else-l-eq0 : goal.returns-else-l-eq0
unfolding post_semaphore post_to
returns-else-l-eq0 c =
    let a = c.args in
    let v = view a.t a.rows.now in
    same_word (post_semaphore a.o) c.wake.ensures
    (sym (ap (λ (l : List ℕ). post_to a.o l v) (first-listed c.requires.whole (2 + a.o) (list-below a.o c.requires.o_bound) (somebody (goal.at.returns-else-l-eq0 c).Else-l-eq0)).1))
