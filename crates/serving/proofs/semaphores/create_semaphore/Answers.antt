-- The numbers of an accepted call fit the record, which is stored whole.
use mathlib.Core.Path.{◌≡◌, refl}
use mathlib.Core.Bool.{true, ◌&&◌}
use Prim.Native.Nat.{◌<◌, ◌≤◌}
use native.Mathlib.Omega.{arith}
use borrow.Author.Tests.{leb-true, leb-false, not-false}
use lib.Dec.{leb}
use Rattle.sequences.proofs.Tests.{left, right}
use Rattle.model.specs.declared.requests.Request.{Request}
use Rattle.model.specs.State.{State}
use Rattle.model.specs.Ranges.{is_positive_16}
use Rattle.model.specs.Calls.{answers, unused_cd, create_semaphore}
use Rattle.model.specs.Effects.{create_semaphore_effect}
use Rattle.rules.proofs.InRange.{positive_fits}
use Rattle.theorems.specs.Allowed.{Allowed}
use Rattle.theorems.proofs.Allowing.{not-due}
use Rattle.words.proofs.Accepted.{unmoved_does}
use Rattle.serving.proofs.semaphores.create_semaphore.Goals as goal

module _ {q : Request} {s : State} (a : Allowed create_semaphore q s) where
  below : q.id < 8
  unfolding answers
  below = leb-false 8 q.id (not-due a 0 refl)

  numbers : is_positive_16 q.b && leb q.a q.b ≡ true
  unfolding answers
  numbers = left (is_positive_16 q.b && leb q.a q.b) (unused_cd q) (not-false _ (not-due a 1 refl))

  most : q.a ≤ q.b
  most = leb-true q.a q.b (right (is_positive_16 q.b) (leb q.a q.b) numbers)

  maximum : q.b ≤ 65535
  maximum = positive_fits q.b (left (is_positive_16 q.b) (leb q.a q.b) numbers)

pub overflow_cast-x : goal.overflow_cast-x
overflow_cast-x c = let a = c.requires.allowed in let h = most a in let k = maximum a in omega arith

pub overflow_cast-x-2 : goal.overflow_cast-x-2
overflow_cast-x-2 c = let k = maximum c.requires.allowed in omega arith

pub store-requires : goal.store-requires
store-requires c = below c.requires.allowed

pub returns : goal.returns
unfolding create_semaphore_effect
returns c =
    unmoved_does c.requires.whole c.store.ensures refl refl refl
