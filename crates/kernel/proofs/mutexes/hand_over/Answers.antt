-- The stored list is empty or starts with a thread's id, and the mutex's record stands on no list.
use mathlib.Core.Path.{refl, sym, ap}
use mathlib.Core.List.{List}
use Prim.Native.Nat.{ℕ, ◌+◌, ◌<◌}
use native.Mathlib.Omega.{arith}
use lib.ListN.{get_or}
use Rattle.model.specs.State.{State, mutex_list}
use Rattle.model.specs.Parts.{list, with_owner}
use Rattle.model.specs.Effects.{hand_over}
use Rattle.model.specs.Before.{view, list_at}
use Rattle.placed.proofs.Standing.{unmoved_placed}
use Rattle.table.proofs.Rooms.{given-after}
use Rattle.table.proofs.Views.{does, and_then, same_word}
use Rattle.table.proofs.StoredLists.{listed_below, none-listed, first-listed}
use Rattle.table.proofs.Rewriting.{rewritten_mutex}
use Rattle.kernel.proofs.mutexes.hand_over.Goals as goal
use Rattle.kernel.proofs.mutexes.hand_over.Goals.{Else-l-eq0, Start}

within : (s : Start) → 10 + s.args.o < 18
within s = let h = s.requires.o_bound in omega arith

some : (c : Else-l-eq0) → 0 < (list_at c.args.t.waits (10 + c.args.o)).length
some c = omega (arith, c.if-l-eq0.false)

pub wake-requires : goal.wake-requires
wake-requires c =
    let rows = c.args.rows.now in
    given-after (does rows c.requires.whole.order c.with_mutex-u.ensures) (listed_below c.requires.whole (10 + c.args.o) (within (goal.at.wake-requires c).Start) 0 (some (goal.at.wake-requires c).Else-l-eq0))
    (unmoved_placed refl refl refl c.requires.whole.placed)

pub returns-then-l-eq0 : goal.returns-then-l-eq0
unfolding hand_over
returns-then-l-eq0 c =
    let o = c.args.o in
    let rows = c.args.rows.now in
    let v = view c.args.t rows in
    let m = rewritten_mutex c.args.t c.with_mutex.result o _ (with_owner 0 0) refl c.with_mutex.ensures in
    same_word (λ (s₁ : State). hand_over o (list (mutex_list o) s₁) s₁) (does rows c.requires.whole.order m)
    (ap (λ (l : List ℕ). hand_over o l v) (sym (none-listed c.requires.whole (10 + o) (within (goal.at.returns-then-l-eq0 c).Start) c.if-l-eq0.true)))

pub returns-else-l-eq0 : goal.returns-else-l-eq0
unfolding hand_over
returns-else-l-eq0 c =
    let o = c.args.o in
    let rows = c.args.rows.now in
    let v = view c.args.t rows in
    let i = get_or (list_at c.args.t.waits (10 + o)).ids 0 0 in
    let m = rewritten_mutex c.args.t c.with_mutex-u.result o _ (with_owner i 1) refl c.with_mutex-u.ensures in
    same_word (λ (s₁ : State). hand_over o (list (mutex_list o) s₁) s₁) (and_then (does rows c.requires.whole.order m) c.wake.ensures)
    (ap (λ (l : List ℕ). hand_over o l v) (sym (first-listed c.requires.whole (10 + o) (within (goal.at.returns-else-l-eq0 c).Start) (some (goal.at.returns-else-l-eq0 c).Else-l-eq0)).1))
