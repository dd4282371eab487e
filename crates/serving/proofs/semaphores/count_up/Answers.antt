-- Below the maximum one more is written, else the record stays, as the model's change has it.
use mathlib.Core.Path.{◌≡◌, ap}
use mathlib.Core.List.{List}
use Prim.Native.Nat.{ℕ, ◌+◌, ◌<◌, ◌≤◌}
use borrow.Author.Tests.{lt-ltb, le-ltb}
use Rattle.sequences.proofs.Places.{alter_alike, alter-none}
use Rattle.model.specs.declared.tables.Semaphore.{Semaphore}
use Rattle.model.specs.State.{State, absent_semaphore}
use Rattle.model.specs.Parts.{semaphore, with_semaphores, alter_semaphore, with_count}
use Rattle.model.specs.Effects.{one_more}
use Rattle.model.specs.Layout.{view}
use Rattle.fields.proofs.Parts.{same_word}
use Rattle.words.proofs.Altered.{unaltered}
use Rattle.serving.proofs.semaphores.count_up.Goals as goal

-- with what was read of the state
module _ (o : ℕ) (s : State) (n most : ℕ) (has : n ≡ (semaphore o s).count) (may : most ≡ (semaphore o s).maximum) where
  counts : n < most → alter_semaphore o (with_count (n + 1)) s ≡ alter_semaphore o one_more s
  counts h =
      ap (λ (l : List Semaphore). with_semaphores l s)
      (alter_alike (with_count (n + 1)) one_more absent_semaphore s.semaphores o (rw (← has, ← may, lt-ltb n most h)))

  full : most ≤ n → alter_semaphore o one_more s ≡ s
  full h =
      ap (λ (l : List Semaphore). with_semaphores l s)
      (alter-none one_more absent_semaphore o s.semaphores (rw (← has, ← may, le-ltb n most h)))

pub returns-then-count-maximum : goal.returns-then-count-maximum
returns-then-count-maximum c =
    let a = c.args in
    same_word c.set_count.ensures (alter_semaphore a.o one_more)
    (counts a.o (view a.image.now) _ _ c.count-count.ensures c.maximum.ensures c.if-count-maximum.true)

pub returns-else-count-maximum : goal.returns-else-count-maximum
returns-else-count-maximum c =
    unaltered c.told-image (alter_semaphore c.args.o one_more)
    (full c.args.o (view c.args.image.now) _ _ c.count-count.ensures c.maximum.ensures c.if-count-maximum.false)
