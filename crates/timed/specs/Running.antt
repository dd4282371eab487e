-- How far timers and limits have to be looked at: those outside stand at 0, and no tick starts one.
use Rattle.std.specs.Prelude.{◌≡◌, ℕ, ◌<◌, ◌≤◌}
use Rattle.model.specs.State.{State, thread_count, timer_count}
use Rattle.model.specs.Parts.{thread, timer}

pub record TimersTo (end : ℕ) (s : State) : Type 0 where
  pub most : end ≤ timer_count
  pub behind : (o : ℕ) → end ≤ o → (timer o s).left ≡ 0

pub record LimitsFrom (from end : ℕ) (s : State) : Type 0 where
  pub order : from ≤ end
  pub most : end ≤ thread_count
  pub before : (i : ℕ) → i < from → (thread i s).limit ≡ 0
  pub behind : (i : ℕ) → end ≤ i → (thread i s).limit ≡ 0
