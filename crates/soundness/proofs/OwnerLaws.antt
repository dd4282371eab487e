-- The record of a mutex's owner, where the owner may be out of range.
use mathlib.Core.Path.{◌≡◌, refl, ap}
use mathlib.Core.Bool.{Bool, true, false, and-false}
use Prim.Native.Nat.{ℕ, ◌<◌}
use borrow.Author.Tests.{ltb-true}
use lib.Dec.{ltb}
use Rattle.model.specs.declared.tables.Thread.{Thread}
use Rattle.model.specs.declared.tables.Mutex.{Mutex}
use Rattle.model.specs.State.{thread_count}
use Rattle.model.specs.Sound.{mutex_in_range}
use Rattle.soundness.specs.Records.{mutex_fits}

-- where the owner is out of range the mutex doesn't fit, whatever stands for its record
pub mutex_fits-in_range : (x : Mutex) (a b : Thread) (waiters : ℕ) (own-waiter : Bool) → (x.owner < thread_count → a ≡ b)
    → mutex_fits x a waiters own-waiter ≡ mutex_fits x b waiters own-waiter
unfolding mutex_fits mutex_in_range
mutex_fits-in_range x a b waiters own-waiter same = by_test (ltb x.owner thread_count) refl
  where
    by_test : (t : Bool) → ltb x.owner thread_count ≡ t → mutex_fits x a waiters own-waiter ≡ mutex_fits x b waiters own-waiter
    by_test true e = ap (λ (o : Thread). mutex_fits x o waiters own-waiter) (same (ltb-true x.owner thread_count e))
    by_test false e = simp (e, and-false)
