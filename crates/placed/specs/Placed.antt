-- The part of soundness that holds between the steps of a call too, and that every word needs: how many there are of each, and where
-- threads stand. Soundness gives it; that leaving and a changed record keep it is shown beside it.
use Rattle.std.specs.Prelude.{◌≡◌, ℕ, ◌+◌, ◌<◌, ◌≤◌, length}
use Rattle.sequences.specs.Lists.{count, count_all}
use Rattle.model.specs.State.{State, thread_count, priority_count, list_count}
use Rattle.model.specs.Parts.{thread, ready_list}

-- on how many lists a thread stands
abbrev pub standing : ℕ → State → ℕ
standing i s = count_all i s.ready + count_all i s.waits

pub record Placed (s : State) : Type 0 where
  pub threads : length s.threads ≡ thread_count
  pub ready : length s.ready ≡ priority_count
  pub waits : length s.waits ≡ list_count
  -- nobody stands on two lists, or twice on one, and only threads stand on lists
  pub once : (i : ℕ) → standing i s ≤ 1
  pub known : (i : ℕ) → thread_count ≤ i → standing i s ≡ 0
  -- a ready thread stands on the list of its current priority
  pub level : (p i : ℕ) → 0 < count i (ready_list p s) → (thread i s).current ≡ p
  pub priorities : (i : ℕ) → (thread i s).current < priority_count
