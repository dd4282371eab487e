-- Whether a thread owns one of these mutexes: the model's `owns-any`, over the array by itself.
use Rattle.std.specs.Prelude.{Bool, ◌&&◌, List, ℕ, eqb, ltb, get_or}
use Rattle.sequences.specs.Lists.{some_below}
use Rattle.model.specs.declared.tables.Mutex.{Mutex}
use Rattle.model.specs.State.{mutex_count, absent_mutex}

unfoldable pub owns_one_of : List Mutex → ℕ → Bool
owns_one_of mutexes i =
    some_below mutex_count (λ o. ltb 0 (get_or mutexes o absent_mutex).depth && eqb (get_or mutexes o absent_mutex).owner i)
