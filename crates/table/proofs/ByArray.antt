-- What is asked of an array by itself is what the model asks of the state that has it.
use mathlib.Core.Path.{◌≡◌, refl}
use Prim.Native.Nat.{ℕ, zero, suc}
use Rattle.model.specs.State.{State}
use Rattle.model.specs.Ranges.{names_object}
use Rattle.model.specs.Words.{owns_any}
use Rattle.table.specs.Objects.{names_one_of}
use Rattle.table.specs.Owners.{owns_one_of}

pub owns_any-one-of : (i : ℕ) (s : State) → owns_any i s ≡ owns_one_of s.mutexes i
unfolding owns_any owns_one_of
owns_any-one-of i s = refl

pub names_object-one-of : (kind object : ℕ) (s : State) → names_object kind object s ≡ names_one_of s.semaphores s.flags kind object
names_object-one-of zero object s = refl
names_object-one-of (suc zero) object s = refl
names_object-one-of (suc (suc zero)) object s = refl
names_object-one-of (suc (suc (suc kind))) object s = refl
