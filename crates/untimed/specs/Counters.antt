-- The nearest of many counters, told by its place.
use Rattle.std.specs.Prelude.{◌≡◌, List, ℕ, ◌<◌, ◌≤◌, length, get_or}
use Rattle.sequences.specs.Lists.{nearest}
use Rattle.rules.specs.Counting.{never, place}

pub record Nearest (counters : List ℕ) (p : ℕ) : Type 0 where
  pub fits : nearest counters ≤ never
  pub at : p ≡ place (nearest counters)

-- what is answered for each place is the counter that stands there
abbrev pub Tells : (ℕ → ℕ → Type 0) → List ℕ → Type 0
Tells answers counters = (o r : ℕ) → o < length counters → answers o r → r ≡ get_or counters o 0
