-- Whether a semaphore takes no more posts.
use Rattle.std.specs.Prelude.{◌≡◌, Bool, true, not, ◌&&◌, ℕ, eqb}
use Rattle.model.specs.State.{State, semaphore_list}
use Rattle.model.specs.Parts.{semaphore}
use Rattle.model.specs.Ranges.{has_semaphore}
use Rattle.model.specs.Sound.{waited_for}

-- nobody waits for it, and its count is its maximum; of a semaphore that isn't there nothing is said
abbrev pub FullIfThere : ℕ → State → Bool → Type 0
FullIfThere o s b =
    has_semaphore o s ≡ true
    → b ≡ (not (waited_for (semaphore_list o) s) && eqb (semaphore o s).count (semaphore o s).maximum)
